-- The text that a run writes is one that `explore` lists, if no call got no memory and no gate stopped a list.
use Rattle.std.specs.Prelude.{◌≡◌, ◌⊎◌, ◌++◌, ℕ, Bool, All, List, Option}
use Rattle.gt_linearization.specs.Prelude.{N26, denial_of}
use Rattle.gt_types.specs.declared.denial.Facts.TheVariants as facts
use Rattle.gt_linearization.specs.RunNames.{IsAmong, ThreadJob, Served, WritesAll, ListOutcome}
use Rattle.gt_model.specs.declared.trace.Answer.TheVariants as answers
use Rattle.gt_script.specs.RunContents.{RunContents}
use Rattle.gt_script_runs.specs.Rights.{may_by}
use Rattle.gt_script_runs.specs.declared.rights.ScriptPolicy.{ScriptPolicy}
use Rattle.gt_run.specs.Printing.{texts_in}
use Rattle.gt_run.specs.Runs.{AreOf}
use Rattle.gt_run.specs.Serving.{RefusesNone, gate_line}
use Rattle.gt_explore_replay.specs.Orders.{MayGive}

-- the call got no memory
abbrev pub IsLackOfMemory : ListOutcome → Type 0
IsLackOfMemory o = o.answer ≡ answers.Denied (denial_of N26 facts.None)

-- each call of the list got its memory
abbrev pub HasNoneLost : {P : Type 0} → Served P → Type 0
HasNoneLost s = (o : ListOutcome) → IsAmong o s.outcomes → IsLackOfMemory o → ⊥

-- the list was not stopped by its gate: its text does not end with the line of a gate
abbrev pub EndsAtNoGate : {P : Type 0} → Served P → Type 0
EndsAtNoGate s = (before : List ℕ) (line : ℕ) → s.text ≡ before ++ gate_line line s.job.part.dom → ⊥

-- no list was stopped by its gate, or the gate refuses no flag
abbrev pub NoneStops : {P : Type 0} → (ℕ → Bool) → List (Served P) → Type 0
NoneStops refuses all = RefusesNone refuses ⊎ All EndsAtNoGate all

-- what a run of a script writes is a text that the script may give, so one that `explore` lists, if no list was stopped
-- by its gate and no answer is N26; at a gate that refuses no flag, if no answer is N26
abbrev pub RunsAreExplored : Type 0
RunsAreExplored =
    (refuses : ℕ → Bool) (c : RunContents) (logged : Bool) (jobs : List (ThreadJob ScriptPolicy))
    (old new : Option (List ℕ)) → (of : AreOf c logged jobs) → (wrote : WritesAll may_by refuses jobs old new)
    → NoneStops refuses wrote.0 → All HasNoneLost wrote.0 → MayGive c (texts_in wrote.0)
