-- Claims that are decided without a list of all texts.
use Rattle.std.specs.Prelude.{◌≡◌, ◌++◌, ℕ, Bool, true, false, List, All, is_some, slice_get, None, Some}
use Rattle.gt_script.specs.RunContents.{RunContents}
use Rattle.gt_explore_answers.specs.Exploring.{AreConditions, AreTextsOf, satisfied, verdict_line}
use Rattle.gt_explore_answers.specs.Objects.{summary}
use Rattle.gt_explore_answers.specs.Outputs.{Found, states_line}
use Rattle.gt_explore_answers.specs.declared.asking.ExploreFormat.{ExploreFormat}
use Rattle.gt_explore_answers.specs.declared.asking.ExploreFormat.TheVariants as explore_formats
use Rattle.gt_explore_kinds.specs.Kinds.{AreOfOneKind}
use Rattle.gt_explore_replay.specs.Orders.{MayGive}
use Rattle.gt_explore_verdict.specs.Formulas.{Formula, Op, formula_of}
use Rattle.gt_explore_verdict.specs.Judging.{VerdictMeans, judged, verdict_at}
use Rattle.gt_explore_verdict.specs.declared.judging.Claim.{Claim}
use Rattle.gt_explore_verdict.specs.declared.judging.Claim.TheVariants.{Find, Never, Always}
use Rattle.gt_explore_verdict.specs.declared.judging.Judgement.{Judgement}
use Rattle.gt_explore_verdict.specs.declared.judging.Verdict.{Verdict}
use Rattle.gt_explore_claims.specs.Deciding.{Numbered, claim_answer, claim_judged, operations_of}

-- the formula of a claim's expression
abbrev pub formula_of_claim : Numbered → Formula
formula_of_claim claim = formula_of (operations_of claim)

-- what the verdict on a claim means for the texts that the script may give
abbrev pub AnswerMeans : RunContents → Found → Numbered → Type 0
AnswerMeans c f claim =
    VerdictMeans (MayGive c) claim.stated.claim (formula_of_claim claim) (claim_answer f claim).verdict

-- texts that a script may give: if the search is over, one of each kind for these formulas
pub record HasEachKindOf (c : RunContents) (formulas : List Formula) (f : Found) : Type 0 where
  pub possible : All (MayGive c) f.texts
  pub whole : f.whole ≡ true → (text : List ℕ) → MayGive c text
      → (at : ℕ) × (one : List ℕ) × (slice_get f.texts at ≡ Some one) × AreOfOneKind formulas text one

-- one of these texts shows the verdict on a claim
abbrev pub is_shown : Found → Numbered → Bool
is_shown f claim = is_some (claim_answer f claim).number

-- what is known of a claim if no text shows the verdict
abbrev pub unshown_judgement : Claim → Bool → Judgement
unshown_judgement claim whole = record { verdict = verdict_at claim false whole; shown_by = None }

-- none of these texts, which need not be all, shows the verdict on one of the claims. Each verdict means what it means by
-- all texts; if these have one of each kind, a list of all texts gives the same verdicts
pub record ShowNone (c : RunContents) (claims : List Numbered) (f : Found) : Type 0 where
  pub possible : All (MayGive c) f.texts
  pub none : All (λ claim. claim_judged f claim ≡ unshown_judgement claim.stated.claim f.whole) claims
  pub means : All (AnswerMeans c f) claims
  pub same : f.whole ≡ true → (all : Found) → AreTextsOf c all → all.whole ≡ true
      → All (λ claim. claim_judged all claim ≡ claim_judged f claim) claims

-- the output for a claim of which no text shows the verdict
abbrev pub unshown_line : Claim → Verdict → Found → List ℕ
unshown_line Find verdict f = states_line f
unshown_line Never verdict f = verdict_line verdict ++ states_line f
unshown_line Always verdict f = verdict_line verdict ++ states_line f

-- the same in a format
abbrev pub unshown_output : ExploreFormat → ℕ → Claim → Verdict → Found → List ℕ
unshown_output explore_formats.Text limit claim verdict f = unshown_line claim verdict f
unshown_output explore_formats.Json limit claim verdict f = summary f limit verdict

-- the claim is decided by texts of which none shows the verdict. If they have one of each kind, a list of all texts has
-- none that shows it either
pub record IsDecidedUnshown (c : RunContents) (format : ExploreFormat) (limit : ℕ) (claim : Claim) (expression : List ℕ)
    (text : List ℕ) (verdict : Verdict) : Type 0 where
  pub found : Found
  pub conditions : List Op
  pub read : AreConditions c expression conditions
  pub possible : All (MayGive c) found.texts
  pub none : judged claim (satisfied conditions found) found.whole ≡ unshown_judgement claim found.whole
  pub is : verdict ≡ verdict_at claim false found.whole
  pub means : VerdictMeans (MayGive c) claim (formula_of conditions) verdict
  pub same : found.whole ≡ true → (all : Found) → AreTextsOf c all → all.whole ≡ true
      → judged claim (satisfied conditions all) all.whole ≡ unshown_judgement claim true
  pub output : text ≡ unshown_output format limit claim verdict found
