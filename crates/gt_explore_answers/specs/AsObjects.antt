-- The output of `explore` for a script as JSON, by the request: the objects that it shows, and the verdict.
use Rattle.std.specs.Prelude.{◌≡◌, ◌+◌, ◌++◌, ℕ, Bool, true, false, List, [], Option, Some, is_some}
use Rattle.gt_script.specs.Contents.{Contents}
use Rattle.gt_script.specs.RunContents.{RunContents}
use Rattle.gt_explore_replay.specs.Orders.{MayGive}
use Rattle.gt_explore_verdict.specs.Formulas.{Op, formula_of}
use Rattle.gt_explore_verdict.specs.Judging.{VerdictMeans, judged, verdict_at}
use Rattle.gt_explore_verdict.specs.declared.judging.Claim.{Claim}
use Rattle.gt_explore_verdict.specs.declared.judging.Claim.TheVariants.{Find, Never, Always}
use Rattle.gt_explore_verdict.specs.declared.judging.Verdict.{Verdict}
use Rattle.gt_explore_answers.specs.Exploring.{MeansGiven, index_of_text, satisfied, verdict_of_all}
use Rattle.gt_explore_answers.specs.Objects.{ShowsText, ShowsTexts, summary}
use Rattle.gt_explore_answers.specs.Outputs.{Found}
use Rattle.gt_explore_answers.specs.declared.asking.ExploreRequest.{ExploreRequest}
use Rattle.gt_explore_answers.specs.declared.asking.ExploreRequest.TheVariants as explore_requests

-- the objects that an exploration shows, by the texts that were found and the verdict
abbrev pub Showing : Type 1
Showing = Found → Verdict → List ℕ → Type 0

-- the output shows these objects and the last one
pub record ShowsObjects (limit : ℕ) (Objects : Found → Verdict → List ℕ → Type 0) (f : Found) (text : List ℕ)
    (verdict : Verdict) : Type 0 where
  pub objects : List ℕ
  pub shown : Objects f verdict objects
  pub ended : text ≡ objects ++ summary f limit verdict

-- all texts, with scripts for `play` or without
abbrev pub ShowsAll : RunContents → Bool → Showing
ShowsAll c scripts f verdict objects =
    ShowsTexts c.head f scripts 0 f.texts (satisfied [] f) objects × (verdict ≡ verdict_of_all f.whole)

-- the texts that satisfy the conditions of a claim that one does, and of another claim the text that shows that it does
-- not hold, if there is one, with a script for `play`
abbrev pub ShowsClaimedBy : Contents → Claim → List Bool → Found → Option ℕ → List ℕ → Type 0
ShowsClaimedBy c Find met f shown_by objects = ShowsTexts c f false 0 f.texts met objects
ShowsClaimedBy c Never met f shown_by objects = ShowsText c f true shown_by objects
ShowsClaimedBy c Always met f shown_by objects = ShowsText c f true shown_by objects

abbrev pub ShowsClaimed : RunContents → Claim → List Op → Found → List ℕ → Type 0
ShowsClaimed c claim conditions f objects =
    ShowsClaimedBy c.head claim (satisfied conditions f) f (judged claim (satisfied conditions f) f.whole).shown_by objects

-- a claim on these conditions is decided
abbrev pub ShowsClaim : RunContents → Claim → List Op → Showing
ShowsClaim c claim conditions f verdict objects =
    (verdict ≡ (judged claim (satisfied conditions f) f.whole).verdict)
    × VerdictMeans (MayGive c) claim (formula_of conditions) verdict × ShowsClaimed c claim conditions f objects

-- a text that was asked about
abbrev pub ShowsGiven : RunContents → List ℕ → Showing
ShowsGiven c given f verdict objects =
    (verdict ≡ verdict_at Find (is_some (index_of_text given f.texts)) f.whole) × MeansGiven c given verdict
    × ShowsText c.head f false (index_of_text given f.texts) objects

-- the text of a number, with a script for `play`
abbrev pub ShowsWitness : RunContents → ℕ → Showing
ShowsWitness c number f verdict objects =
    (at : ℕ) × (number ≡ at + 1) × ShowsText c.head f true (Some at) objects × (verdict ≡ verdict_of_all f.whole)

-- the output and the verdict, by the request
abbrev pub ShowsBy : RunContents → ℕ → ExploreRequest → List Op → Found → List ℕ → Verdict → Type 0
ShowsBy c limit explore_requests.Texts conditions = ShowsObjects limit (ShowsAll c false)
ShowsBy c limit (explore_requests.Decide claim expression) conditions =
    ShowsObjects limit (ShowsClaim c claim conditions)
ShowsBy c limit (explore_requests.Has given) conditions = ShowsObjects limit (ShowsGiven c given.now)
ShowsBy c limit (explore_requests.Witness number) conditions = ShowsObjects limit (ShowsWitness c number)
ShowsBy c limit explore_requests.Witnesses conditions = ShowsObjects limit (ShowsAll c true)
