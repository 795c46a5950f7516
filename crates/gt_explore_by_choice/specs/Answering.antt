-- What `explore` writes for a script with choices.
use Rattle.std.specs.Prelude.{◌≡◌, ◌==◌, ◌+◌, ◌++◌, ℕ, Bool, false, List, [], Option, Some, None}
use Rattle.std.specs.Prelude.{codes, decimal, if◌then◌else◌, is_some, length, slice_get}
use Rattle.gt_explore_answers.specs.Exploring.{GivesTexts, has_its_text, index_of_text, number_output, satisfied}
use Rattle.gt_explore_answers.specs.Exploring.{verdict_line, verdict_of_all}
use Rattle.gt_explore_answers.specs.Outputs.{Found, counterexample_comment, states_line, texts_output}
use Rattle.gt_explore_answers.specs.Witness.{IsTextNumbered, ShowsAfter}
use Rattle.gt_explore_answers.specs.declared.asking.ExploreRequest.{ExploreRequest}
use Rattle.gt_explore_answers.specs.declared.asking.ExploreRequest.TheVariants as explore_requests
use Rattle.gt_explore_by_choice.specs.Gathering.{AreUnited}
use Rattle.gt_explore_by_choice.specs.Possible.{IsScriptByChoice, MayGiveByChoice}
use Rattle.gt_explore_verdict.specs.Formulas.{Op, formula_of}
use Rattle.gt_explore_verdict.specs.Judging.{VerdictMeans, judged, verdict_at}
use Rattle.gt_explore_verdict.specs.declared.judging.Claim.{Claim}
use Rattle.gt_explore_verdict.specs.declared.judging.Claim.TheVariants.{Find, Never, Always}
use Rattle.gt_explore_verdict.specs.declared.judging.Judgement.{Judgement}
use Rattle.gt_explore_verdict.specs.declared.judging.Verdict.{Verdict}
use Rattle.gt_explore_verdict.specs.declared.judging.Verdict.TheVariants.{Holds, Fails, Undecided}
use Rattle.gt_script.specs.RunContents.{RunContents}

-- these lines are a script for `play` that gives the answers of the text, or the line in its place, for one of the
-- choices
abbrev pub ShowsByChoice : List ℕ → List ℕ → List ℕ → Type 0
ShowsByChoice source lines text = (c : RunContents) × IsScriptByChoice source c × ShowsAfter c.head [] lines text

-- the output for a verdict: its line, or the text that shows it as a comment, and a script for `play` that gives it
abbrev pub IsVerdictByChoices : List ℕ → Found → Verdict → Option ℕ → List ℕ → Type 0
IsVerdictByChoices source f verdict None out = out ≡ verdict_line verdict ++ states_line f
IsVerdictByChoices source f verdict (Some at) out =
    (text : List ℕ) × (lines : List ℕ) × (slice_get f.texts at ≡ Some text)
    × (out ≡ counterexample_comment f (at + 1) text ++ lines) × ShowsByChoice source lines text

-- the output for a claim, by whether each text satisfies it, and by the judgement
abbrev pub IsClaimByChoices : List ℕ → Claim → Found → List Bool → Judgement → List ℕ → Type 0
IsClaimByChoices source Find f met judgement out = out ≡ texts_output f met
IsClaimByChoices source Never f met judgement out = IsVerdictByChoices source f judgement.verdict judgement.shown_by out
IsClaimByChoices source Always f met judgement out =
    IsVerdictByChoices source f judgement.verdict judgement.shown_by out

-- a claim on these conditions is decided
pub record DecidesByChoices (source : List ℕ) (claim : Claim) (conditions : List Op) (f : Found) (out : List ℕ)
    (verdict : Verdict) : Type 0 where
  pub is : verdict ≡ (judged claim (satisfied conditions f) f.whole).verdict
  pub means : VerdictMeans (MayGiveByChoice source) claim (formula_of conditions) verdict
  pub output : IsClaimByChoices source claim f (satisfied conditions f) (judged claim (satisfied conditions f) f.whole) out

-- what a verdict on a text means
abbrev pub MeansGivenByChoice : List ℕ → List ℕ → Verdict → Type 0
MeansGivenByChoice source text Holds = MayGiveByChoice source text
MeansGivenByChoice source text Fails = MayGiveByChoice source text → ⊥
MeansGivenByChoice source text Undecided = Unit {0}

-- the number of a text that some choice may give
pub record NumbersByChoices (source : List ℕ) (given : List ℕ) (f : Found) (out : List ℕ) (verdict : Verdict) : Type 0
  where
    pub is : verdict ≡ verdict_at Find (is_some (index_of_text given f.texts)) f.whole
    pub means : MeansGivenByChoice source given verdict
    pub output : out ≡ number_output f (index_of_text given f.texts)

-- a script for `play` for the text of a number
pub record IsWitnessByChoice (source : List ℕ) (number : ℕ) (f : Found) (out : List ℕ) (verdict : Verdict) : Type 0
  where
    pub text : List ℕ
    pub numbered : IsTextNumbered f.texts number text
    pub shows : ShowsByChoice source out text
    pub is : verdict ≡ verdict_of_all f.whole

-- the output and the verdict for the requests that have an answer
abbrev pub AnswersByChoices : List ℕ → ExploreRequest → List Op → Found → List ℕ → Verdict → Type 0
AnswersByChoices source explore_requests.Texts conditions = GivesTexts
AnswersByChoices source (explore_requests.Decide claim expression) conditions = DecidesByChoices source claim conditions
AnswersByChoices source (explore_requests.Has given) conditions = NumbersByChoices source given.now
AnswersByChoices source (explore_requests.Witness number) conditions = IsWitnessByChoice source number
AnswersByChoices source explore_requests.Witnesses conditions = λ f out verdict. ⊥

-- the number of choices in which a domain waits for ever
unfoldable pub waiting_comment : ℕ → List ℕ
waiting_comment waiting =
    codes "# choices in which a domain waits for ever: " ++ decimal waiting ++ codes "\n"

-- the last line, if there are such choices
abbrev pub waiting_line : ℕ → List ℕ
waiting_line waiting = if waiting == 0 then [] else waiting_comment waiting

-- the output and the verdict for a request on these conditions
pub record IsOnConditions (source : List ℕ) (request : ExploreRequest) (conditions : List Op) (out : List ℕ)
    (verdict : Verdict) : Type 0 where
  pub found : Found
  pub waiting : ℕ
  pub united : AreUnited source found waiting
  pub answer : List ℕ
  pub answers : AnswersByChoices source request conditions found answer verdict
  pub output : out ≡ answer ++ waiting_line waiting

-- no text has the number that a request names: of all texts, or of those found before a search ended
pub record LacksByChoices (source : List ℕ) (request : ExploreRequest) (all : Bool) : Type 0 where
  pub found : Found
  pub waiting : ℕ
  pub united : AreUnited source found waiting
  pub whole : found.whole ≡ all
  pub lacks : has_its_text request (length found.texts) ≡ false
