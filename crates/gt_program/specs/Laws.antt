-- The text that `run` wrote, among those that `explore` found.
use Rattle.std.specs.Prelude.{◌≡◌, ℕ, Bool, true, List, Option, Ok}
use Rattle.gt_script.specs.Contents.{type_names}
use Rattle.gt_script.specs.RunContents.{RunContents}
use Rattle.gt_script.specs.RunScripts.{ReadsAsRun}
use Rattle.gt_explore.specs.Writing.{Explored}
use Rattle.gt_explore_answers.specs.Outputs.{Found}
use Rattle.gt_explore_answers.specs.Texts.{IsTextAmong}
use Rattle.gt_explore_answers.specs.declared.asking.ExploreOptions.{ExploreOptions}
use Rattle.gt_explore_tracing.specs.Writing.{Traced}
use Rattle.gt_explore_tracing.specs.declared.asking.TraceOptions.{TraceOptions}
use Rattle.gt_explore_verdict.specs.declared.judging.Verdict.{Verdict}
use Rattle.gt_linearization.specs.Printed.{IsUndisturbed}
use Rattle.gt_linearization.specs.Running.{RanInOrder}

-- the output of `run` at Ok, for these bytes
abbrev pub RunWrote : (ℕ → Bool) → Bool → List ℕ → Option (List ℕ) → Option (List ℕ) → Type 0
RunWrote refuses logged input old new = RanInOrder refuses logged (ReadsAsRun input) old new (Ok tt)

-- the output of `explore` at Ok, for these bytes
abbrev pub ExploreWrote : ExploreOptions → List ℕ → Option (List ℕ) → Option (List ℕ) → Verdict → Type 0
ExploreWrote asked input old new verdict = Explored asked (ReadsAsRun input) old new (Ok verdict)

-- the same for moves
abbrev pub MovesWrote : TraceOptions → List ℕ → Option (List ℕ) → Option (List ℕ) → Verdict → Type 0
MovesWrote asked input old new verdict = Traced asked (ReadsAsRun input) old new (Ok verdict)

module _ (refuses : ℕ → Bool) (logged : Bool) (input : List ℕ) (old new : Option (List ℕ)) where
  -- the script of a run
  abbrev pub script_run : RunWrote refuses logged input old new → RunContents
  script_run ran = ran.1.0

  -- the text that it wrote
  abbrev pub text_run : RunWrote refuses logged input old new → List ℕ
  text_run ran = ran.1.2.text

-- the texts that an exploration found
abbrev pub texts_explored : (asked : ExploreOptions) (input : List ℕ) (old new : Option (List ℕ)) (verdict : Verdict)
    → ExploreWrote asked input old new verdict → Found
texts_explored asked input old new verdict explored = explored.2.1.found

abbrev pub texts_traced : (asked : TraceOptions) (input : List ℕ) (old new : Option (List ℕ)) (verdict : Verdict)
    → MovesWrote asked input old new verdict → Found
texts_traced asked input old new verdict traced = traced.2.1.found

-- If `run` wrote a text for these bytes, and the search of `explore` for the same bytes met all states, that text is
-- among those that `explore` found. No line of the text may have N26, and no list may have stopped at a flag that its
-- gate refused.
abbrev pub RunsAreAmongTheExplored : Type 0
RunsAreAmongTheExplored =
    (input : List ℕ) (refuses : ℕ → Bool) (logged : Bool) (old new : Option (List ℕ))
    (asked : ExploreOptions) (before after : Option (List ℕ)) (verdict : Verdict)
    (ran : RunWrote refuses logged input old new) (explored : ExploreWrote asked input before after verdict)
    → let text = text_run refuses logged input old new ran in
    let found = texts_explored asked input before after verdict explored in
    IsUndisturbed refuses (type_names (script_run refuses logged input old new ran).head) text
    → found.whole ≡ true → IsTextAmong text found.texts

-- the same of the texts that an exploration for moves found
abbrev pub RunsAreAmongTheTraced : Type 0
RunsAreAmongTheTraced =
    (input : List ℕ) (refuses : ℕ → Bool) (logged : Bool) (old new : Option (List ℕ))
    (asked : TraceOptions) (before after : Option (List ℕ)) (verdict : Verdict)
    (ran : RunWrote refuses logged input old new) (traced : MovesWrote asked input before after verdict)
    → let text = text_run refuses logged input old new ran in
    let found = texts_traced asked input before after verdict traced in
    IsUndisturbed refuses (type_names (script_run refuses logged input old new ran).head) text
    → found.whole ≡ true → IsTextAmong text found.texts
