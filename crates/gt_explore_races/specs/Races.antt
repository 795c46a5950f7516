-- Races: accesses of two domains to a common byte, one directly after the other in an order of a script's run.
use Rattle.std.specs.Prelude.{◌≡◌, ◌≢◌, ◌≤◌, ◌⊎◌, ◌++◌, ◌==◌, ℕ, zero, suc, Bool, false, List, ◌∷◌, Option, None, Some}
use Rattle.std.specs.Prelude.{All, Contains, IsTrue, slice_get, count_by}
use Rattle.std.specs.List.Sorted.{IsStrictlySortedBy}
use Rattle.std.specs.Option.{option_map}
use Rattle.gt_explore_replay.specs.Orders.{Happening, IsOrderOf, did, passed, raised}
use Rattle.gt_model.specs.History.{History, Setting, Underway, known_at, open_call, values}
use Rattle.gt_model.specs.Path.{path}
use Rattle.gt_model.specs.declared.action.Action.TheVariants as actions
use Rattle.gt_model.specs.declared.action.Observation.{Observation}
use Rattle.gt_model.specs.declared.action.Step.{Step}
use Rattle.gt_model.specs.declared.trace.Answer.{Answer}
use Rattle.gt_model.specs.declared.trace.Element.TheVariants as elements
use Rattle.gt_model.specs.declared.trace.Event.TheVariants.{Begin, Tick}
use Rattle.gt_model.specs.declared.trace.ItemEvent.TheVariants.{Stepped}
use Rattle.gt_script.specs.Lists.{RunTask}
use Rattle.gt_script.specs.RunContents.{RunContents}
use Rattle.gt_script.specs.RunScripts.{list_of}
use Rattle.gt_types.specs.declared.DomId.{DomId}
use Rattle.gt_explore_races.specs.Accesses.{Conflict}
use Rattle.gt_explore_races.specs.Texts.{race_cmp, race_of}
use Rattle.gt_explore_races.specs.declared.racing.Race.{Race}

-- a domain begins a task by this: it begins a call or a release, or raises or passes a flag
abbrev pub begins_task : DomId → Happening → Bool
begins_task d (did (Begin dom request) e) = dom.0 == d.0
begins_task d (did (Tick dom) e) = false
begins_task d (raised dom flag) = dom.0 == d.0
begins_task d (passed dom flag) = dom.0 == d.0

-- the number of tasks that it has begun; each release at the end of its list is one more
abbrev pub tasks_begun : DomId → List Happening → ℕ
tasks_begun d hs = count_by (begins_task d) hs

-- the line of the last of this number of tasks of the list, if it has that many
abbrev pub last_line : List RunTask → ℕ → Option ℕ
last_line tasks zero = None
last_line tasks (suc n) = option_map (λ t. t.line) (slice_get tasks n)

-- the line of the task that a domain began last
abbrev pub line_begun : RunContents → DomId → List Happening → Option ℕ
line_begun c d hs = last_line (list_of c.tasks d) (tasks_begun d hs)

-- a step of a domain's call
abbrev pub step_by : DomId → Step → Observation → Option Answer → Happening
step_by d y seen answer =
    did (Tick d) (elements.Item (record { actor = d; happened = Stepped y seen; answer = answer }))

-- the open call of a domain makes this step next
pub record MakesNext (s : Setting) (h : History) (d : DomId) (y : Step) : Type 0 where
  pub call : Underway
  pub opened : open_call h d.0 ≡ Some call
  pub follows : path (known_at s h d) d call.request (values call) ≡ Some (actions.Step y)

-- In an order of the script's run two domains access a common byte, one directly after the other, and at least one of
-- them writes it. The first access is of the call of line k, the second of that of line l.
pub record IsRaceOf (c : RunContents) (k l : ℕ) : Type 0 where
  pub before : List Happening
  pub after : List Happening
  pub text : List ℕ
  pub one : DomId
  pub first : Step
  pub seen : Observation
  pub answer : Option Answer
  pub other : DomId
  pub second : Step
  pub seen_next : Observation
  pub answer_next : Option Answer
  pub order : IsOrderOf c
      (before ++ step_by one first seen answer ∷ step_by other second seen_next answer_next ∷ after) text
  pub apart : one.0 ≢ other.0
  pub conflict : Conflict first second
  pub first_line : line_begun c one before ≡ Some k
  pub second_line : line_begun c other before ≡ Some l

-- the calls of two lines race, whichever accesses the byte first
abbrev pub AreRacing : RunContents → ℕ → ℕ → Type 0
AreRacing c k l = IsRaceOf c k l ⊎ IsRaceOf c l k

-- the pair of lines races, and the smaller line is first
abbrev pub Races : RunContents → Race → Type 0
Races c r = (r.first ≤ r.second) × AreRacing c r.first r.second

-- each of these pairs of lines races
abbrev pub EachRaces : RunContents → List Race → Type 0
EachRaces c races = All (Races c) races

-- each pair of lines that race is one of these
abbrev pub HasEachRace : RunContents → List Race → Type 0
HasEachRace c races = (k l : ℕ) → AreRacing c k l → Contains races (race_of k l)

-- the races that a search found, each once: all of them, if it was whole
pub record AreRacesOf (c : RunContents) (whole : Bool) (races : List Race) : Type 0 where
  pub ascending : IsStrictlySortedBy race_cmp races
  pub each : EachRaces c races
  pub all : IsTrue whole → HasEachRace c races
