-- What is written of claims about a script, by the result.
use Rattle.std.specs.Prelude.{◌≡◌, ◌⊎◌, ◌++◌, ℕ, List, All, map, take, Option, Some, None, Result, Ok, Err}
use Rattle.std.specs.Io.KnownBytes.{Appends, Keeps}
use Rattle.std.specs.Str.{IsUtf8}
use Rattle.std.specs.Str.Lines.{lines as lines_in}
use Rattle.std.specs.List.{slice_split}
use Rattle.gt_call_names.specs.Naming.{first_repeated, is_break, with_line_numbers}
use Rattle.gt_policy.specs.declared.fault.TokenFault as policy
use Rattle.gt_script.specs.Blocks.{block_fault_shown}
use Rattle.gt_script.specs.RunContents.{RunContents}
use Rattle.gt_script.specs.RunScripts.{ReadsAsRun}
use Rattle.gt_script.specs.Script.{in_script, in_policy}
use Rattle.gt_script_runs.specs.declared.fault.PlayFault.TheVariants as play_faults
use Rattle.gt_text.specs.Streams.{AppendsBeginning}
use Rattle.gt_text.specs.declared.streams.TheConstants.{READ_LIMIT}
use Rattle.gt_explore.specs.Writing.{Explored}
use Rattle.gt_explore_answers.specs.Exploring.{AreTextsOf}
use Rattle.gt_explore_answers.specs.Objects.{summary}
use Rattle.gt_explore_answers.specs.Outputs.{Found, states_line}
use Rattle.gt_explore_answers.specs.declared.answering.ExploreOutput.{ExploreOutput}
use Rattle.gt_explore_answers.specs.declared.asking.ExploreFormat.{ExploreFormat}
use Rattle.gt_explore_answers.specs.declared.asking.ExploreFormat.TheVariants as explore_formats
use Rattle.gt_explore_answers.specs.declared.asking.ExploreOptions.{ExploreOptions}
use Rattle.gt_explore_answers.specs.declared.asking.ExploreRequest.{ExploreRequest}
use Rattle.gt_explore_answers.specs.declared.asking.ExploreRequest.TheVariants as explore_requests
use Rattle.gt_explore_faults.specs.declared.claims.ClaimsFault.{ClaimsFault}
use Rattle.gt_explore_faults.specs.declared.claims.ClaimsFault.TheVariants as claims_faults
use Rattle.gt_explore_faults.specs.declared.fault.ExploreFault.{ExploreFault}
use Rattle.gt_explore_faults.specs.declared.fault.ExploreFault.TheVariants.{Play, Texts}
use Rattle.gt_explore_verdict.specs.declared.judging.Claim.{Claim}
use Rattle.gt_explore_verdict.specs.declared.judging.Verdict.{Verdict}
use Rattle.gt_explore_claims.specs.Deciding.{AreNumberingFailures, Numbered, claim_answer, claims_shown, first_fault}
use Rattle.gt_explore_claims.specs.Deciding.{numbered_claims}
use Rattle.gt_explore_claims.specs.Deciding.{verdict_of_claims}
use Rattle.gt_explore_claims.specs.Stating.{IsStatedAs, Stated, first_unstated}
use Rattle.gt_explore_claims.specs.Unlisted.{AnswerMeans, IsDecidedUnshown, ShowNone}
use Rattle.gt_explore_claims.specs.declared.exploring.ClaimsOptions.{ClaimsOptions}

-- the lines of a script, as far as it is read; names are looked up in them
abbrev pub AreSourceLines : List ℕ → List (List ℕ) → Type 0
AreSourceLines input lines = IsUtf8 (take READ_LIMIT input) → lines ≡ lines_in (take READ_LIMIT input)

-- ---- one claim, or another request

-- the request is to decide a claim of this kind, by this expression
abbrev pub IsDecision : Claim → List ℕ → ExploreRequest → Type 0
IsDecision claim text explore_requests.Texts = ⊥
IsDecision claim text (explore_requests.Decide kind expression) = (kind ≡ claim) × (expression.now ≡ text)
IsDecision claim text (explore_requests.Has given) = ⊥
IsDecision claim text (explore_requests.Witness number) = ⊥
IsDecision claim text explore_requests.Witnesses = ⊥

-- the second request is the first with the numbers of lines in place of names
abbrev pub IsNamedRequest : List ℕ → ExploreRequest → ExploreRequest → Type 0
IsNamedRequest input (explore_requests.Decide claim expression) request =
    (lines : List (List ℕ)) × AreSourceLines input lines
    × IsDecision claim (with_line_numbers lines expression.now) request
IsNamedRequest input explore_requests.Texts request = request ≡ explore_requests.Texts
IsNamedRequest input (explore_requests.Has given) request = request ≡ explore_requests.Has given
IsNamedRequest input (explore_requests.Witness number) request = request ≡ explore_requests.Witness number
IsNamedRequest input explore_requests.Witnesses request = request ≡ explore_requests.Witnesses

pub record AreOptionsNamed (input : List ℕ) (asked named : ExploreOptions) : Type 0 where
  pub request : IsNamedRequest input asked.request named.request
  pub states : named.states ≡ asked.states
  pub format : named.format ≡ asked.format

-- a name of the expression of a claim is that of the calls on both lines
abbrev pub NamesTwice : List ℕ → ExploreRequest → ℕ × ℕ → Type 0
NamesTwice input (explore_requests.Decide claim expression) both =
    (lines : List (List ℕ)) × AreSourceLines input lines
    × (first_repeated lines (slice_split is_break expression.now) ≡ Some both)
NamesTwice input explore_requests.Texts both = ⊥
NamesTwice input (explore_requests.Has given) both = ⊥
NamesTwice input (explore_requests.Witness number) both = ⊥
NamesTwice input explore_requests.Witnesses both = ⊥

-- the claim of a request about a script was decided by texts of which none shows the verdict
abbrev pub IsMadeUnshown : RunContents → ExploreOptions → List ℕ → Verdict → Type 0
IsMadeUnshown c asked text verdict =
    (claim : Claim) × (expression : List ℕ) × IsDecision claim expression asked.request
    × IsDecidedUnshown c asked.format asked.states claim expression text verdict

-- what was written of such a claim: the whole output, or after a failed write a prefix of it
abbrev pub ExploredUnshown : ExploreOptions → List ℕ → Option (List ℕ) → Option (List ℕ) → Result Verdict ExploreFault
    → Type 0
ExploredUnshown asked input old new (Ok verdict) =
    (c : RunContents) × ReadsAsRun input (Ok c) × (text : List ℕ) × IsMadeUnshown c asked text verdict
    × Appends old new text
ExploredUnshown asked input old new (Err (Play play_faults.Write)) =
    (c : RunContents) × ReadsAsRun input (Ok c) × (text : List ℕ) × (verdict : Verdict)
    × IsMadeUnshown c asked text verdict × AppendsBeginning old new text
ExploredUnshown asked input old new (Err fault) = ⊥

-- the request with numbers in place of names was answered as `explore` does; or its claim was decided by texts of which
-- none shows the verdict
abbrev pub NumberedExplored : ExploreOptions → List ℕ → Option (List ℕ) → Option (List ℕ) → Result Verdict ExploreFault
    → Type 0
NumberedExplored asked input old new r =
    Explored asked (ReadsAsRun input) old new r ⊎ ExploredUnshown asked input old new r

-- what was written, by the result
abbrev pub NamedExplored : ExploreOptions → List ℕ → Option (List ℕ) → Option (List ℕ) → Result Verdict ClaimsFault
    → Type 0
NamedExplored asked input old new (Ok verdict) =
    (named : ExploreOptions) × AreOptionsNamed input asked named × NumberedExplored named input old new (Ok verdict)
NamedExplored asked input old new (Err (claims_faults.Explore fault)) =
    (named : ExploreOptions) × AreOptionsNamed input asked named × NumberedExplored named input old new (Err fault)
NamedExplored asked input old new (Err (claims_faults.Repeated first second)) =
    NamesTwice input asked.request (first, second) × Keeps old new
NamedExplored asked input old new (Err claims_faults.Astray) = Keeps old new
NamedExplored asked input old new (Err (claims_faults.Precedence fault)) = ⊥
NamedExplored asked input old new (Err (claims_faults.Kind number)) = ⊥
NamedExplored asked input old new (Err (claims_faults.Term claim number fault)) = ⊥

-- ---- several claims

-- the last line of the output, or the last object
abbrev pub answers_ended : ExploreFormat → ℕ → Found → Verdict → List ℕ
answers_ended explore_formats.Text states f verdict = states_line f
answers_ended explore_formats.Json states f verdict = summary f states verdict

-- the verdict of all these claims
abbrev pub verdict_on_all : Found → List Numbered → Verdict
verdict_on_all f claims = verdict_of_claims (map (λ claim. (claim_answer f claim).verdict) claims)

-- what is printed of these claims, and the verdict of all
abbrev pub claims_output : ExploreFormat → ℕ → Found → List Numbered → List ℕ × Verdict
claims_output format states f claims =
    (claims_shown format f claims ++ answers_ended format states f (verdict_on_all f claims), verdict_on_all f claims)

-- the claims are answered by all texts that the script may give, or by texts of which none shows a verdict; each verdict
-- means what it says
pub record AreAnswers (c : RunContents) (asked : ClaimsOptions) (claims : List Numbered) (text : List ℕ)
    (verdict : Verdict) : Type 0 where
  pub found : Found
  pub texts : AreTextsOf c found ⊎ ShowNone c claims found
  pub clear : first_fault c 1 claims ≡ None
  pub means : All (AnswerMeans c found) claims
  pub output : (text, verdict) ≡ claims_output asked.format asked.states found claims

abbrev pub MakesAnswers : RunContents → ClaimsOptions → List Numbered → Result ExploreOutput ClaimsFault → Type 0
MakesAnswers c asked claims (Ok made) = AreAnswers c asked claims made.text.items made.verdict
MakesAnswers c asked claims (Err (claims_faults.Term claim number fault)) =
    first_fault c 1 claims ≡ Some (claim, number, fault)
MakesAnswers c asked claims (Err (claims_faults.Explore (Texts fault))) = Unit {0}
MakesAnswers c asked claims (Err fault) = ⊥

-- what was written for a script, by the result
abbrev pub AnswersClaims : RunContents → ClaimsOptions → List Numbered → Option (List ℕ) → Option (List ℕ)
    → Result Verdict ClaimsFault → Type 0
AnswersClaims c asked claims old new (Ok verdict) =
    (text : List ℕ) × AreAnswers c asked claims text verdict × Appends old new text
AnswersClaims c asked claims old new (Err (claims_faults.Term claim number fault)) =
    (first_fault c 1 claims ≡ Some (claim, number, fault)) × Keeps old new
AnswersClaims c asked claims old new (Err (claims_faults.Explore (Texts fault))) = Keeps old new
AnswersClaims c asked claims old new (Err (claims_faults.Explore (Play play_faults.Write))) =
    (text : List ℕ) × (verdict : Verdict) × AreAnswers c asked claims text verdict × AppendsBeginning old new text
AnswersClaims c asked claims old new (Err fault) = ⊥

-- the claims of a text, with the numbers of the lines of a script in place of names
pub record AreClaimsOf (input : List ℕ) (asked : ClaimsOptions) (claims : List Numbered) : Type 0 where
  pub lines : List (List ℕ)
  pub source : AreSourceLines input lines
  pub stated : List Stated
  pub read : IsStatedAs (lines_in asked.claims.now) stated
  pub named : claims ≡ numbered_claims lines stated

-- a name in one of the expressions is that of two calls
pub record ClaimsNameTwice (input : List ℕ) (asked : ClaimsOptions) (fault : ClaimsFault) : Type 0 where
  pub lines : List (List ℕ)
  pub source : AreSourceLines input lines
  pub stated : List Stated
  pub read : IsStatedAs (lines_in asked.claims.now) stated
  pub twice : AreNumberingFailures lines stated fault

-- a script was read, and answered so
abbrev pub ForScript : List ℕ → ClaimsOptions → (RunContents → List Numbered → Type 0) → Type 0
ForScript input asked Answered =
    (c : RunContents) × ReadsAsRun input (Ok c) × (claims : List Numbered) × AreClaimsOf input asked claims
    × Answered c claims

-- what was written for a text: at Ok all answers, after a failed write a prefix of them, and otherwise nothing; a fault
-- of the script is its first
abbrev pub ClaimsExplored : ClaimsOptions → List ℕ → Option (List ℕ) → Option (List ℕ) → Result Verdict ClaimsFault
    → Type 0
ClaimsExplored asked input old new (Ok verdict) =
    ForScript input asked (λ c claims. AnswersClaims c asked claims old new (Ok verdict))
ClaimsExplored asked input old new (Err (claims_faults.Kind number)) =
    (first_unstated 1 (lines_in asked.claims.now) ≡ Some number) × Keeps old new
ClaimsExplored asked input old new (Err (claims_faults.Term claim number fault)) =
    ForScript input asked
    (λ c claims. AnswersClaims c asked claims old new (Err (claims_faults.Term claim number fault)))
ClaimsExplored asked input old new (Err (claims_faults.Repeated first second)) =
    ClaimsNameTwice input asked (claims_faults.Repeated first second) × Keeps old new
ClaimsExplored asked input old new (Err (claims_faults.Explore (Texts fault))) =
    ForScript input asked (λ c claims. AnswersClaims c asked claims old new (Err (claims_faults.Explore (Texts fault))))
ClaimsExplored asked input old new (Err (claims_faults.Explore (Play play_faults.Write))) =
    ForScript input asked
    (λ c claims. AnswersClaims c asked claims old new (Err (claims_faults.Explore (Play play_faults.Write))))
ClaimsExplored asked input old new (Err (claims_faults.Explore (Play play_faults.Memory))) = Keeps old new
ClaimsExplored asked input old new (Err (claims_faults.Explore (Play play_faults.Read))) = Keeps old new
ClaimsExplored asked input old new (Err (claims_faults.Explore (Play (play_faults.Script fault)))) =
    ReadsAsRun input (Err (in_script fault)) × Keeps old new
ClaimsExplored asked input old new (Err (claims_faults.Explore (Play (play_faults.Policy fault)))) =
    (g : policy.TokenFault) × (block_fault_shown fault ≡ Some g) × ReadsAsRun input (Err (in_policy g)) × Keeps old new
ClaimsExplored asked input old new (Err fault) = ⊥
