-- Scripts for `play` that show a race.
use Rattle.std.specs.Prelude.{◌≡◌, ◌⊎◌, ◌++◌, ◌==◌, ℕ, false, List, [], Option, Some, None, Ok, if◌then◌else◌, map}
use Rattle.gt_types.specs.declared.DomId.{DomId}
use Rattle.gt_explore_races.specs.Paths.{LeadsToRace}
use Rattle.gt_explore_races.specs.declared.events.EventKind.{EventKind}
use Rattle.gt_explore_races.specs.declared.events.EventKind.TheVariants as event_kinds
use Rattle.gt_explore_races.specs.declared.racing.Race.{Race}
use Rattle.gt_moment_scripts.specs.Showing.{IsWithoutScript}
use Rattle.gt_script.specs.Contents.{Contents}
use Rattle.gt_script.specs.RunContents.{RunContents}
use Rattle.gt_script.specs.Script.{ReadsAsScript}
use Rattle.gt_script.specs.declared.actions.ScriptAction.{ScriptAction}
use Rattle.gt_script.specs.declared.actions.ScriptAction.TheVariants as script_actions
use Rattle.gt_script.specs.declared.script.ScriptStep.{ScriptStep}
use Rattle.gt_script_runs.specs.Playing.{Played}
use Rattle.gt_explore_racing.specs.Calls.{BeginsCallOf}

-- the event that a line of a script for `play` makes: `begin ID CALL` begins a call, and `tick ID 1` makes one step
abbrev pub event_of_action : DomId → ScriptAction → Option EventKind
event_of_action dom (script_actions.Begin call) = Some (event_kinds.Begin dom)
event_of_action dom (script_actions.Tick most) = if most == 1 then Some (event_kinds.Tick dom) else None
event_of_action dom (script_actions.Do call) = None
event_of_action dom (script_actions.Show gref) = None

abbrev pub event_of_line : ScriptStep → Option EventKind
event_of_line s = event_of_action s.dom s.action

-- the script is one for `play`, which it runs to its end: it has the domains of another script, a line for each of
-- these events, and the calls of the two lines of a race as the last ones of their domains
pub record MakesRace (c : RunContents) (race : Race) (events : List EventKind) (script : List ℕ) : Type 0 where
  pub contents : Contents
  pub reads : ReadsAsScript script (Ok contents)
  pub domains : contents.domains ≡ c.head.domains
  pub lines : map event_of_line contents.steps ≡ map (λ e. Some e) events
  pub first_call : BeginsCallOf c.tasks contents.steps race.first
  pub second_call : BeginsCallOf c.tasks contents.steps race.second
  pub out : List ℕ
  pub played : Played (ReadsAsScript script) false (Some []) (Some out) (Ok tt)

-- the script has the lines of the beginning of an order up to a race, and at its end those of the two accesses
pub record ShowsRace (c : RunContents) (race : Race) (script : List ℕ) : Type 0 where
  pub events : List EventKind
  pub leads : LeadsToRace c race events
  pub makes : MakesRace c race events script

-- the output is this comment and more lines: a script for `play` that shows the race; or the line in its place, if the
-- policy does not let some domain unmap all entries
abbrev pub ShowsRaceAfter : RunContents → Race → List ℕ → List ℕ → Type 0
ShowsRaceAfter c race comment out =
    (lines : List ℕ) × (out ≡ comment ++ lines) × (ShowsRace c race out ⊎ IsWithoutScript c.head lines)
