-- The output of `explore` for a script.
use Rattle.std.specs.Prelude.{◌≡◌, ◌+◌, ◌++◌, ◌&&◌, ℕ, Bool, true, List, [], ◌∷◌, All, length, map, Option, Some}
use Rattle.std.specs.Prelude.{◌⊎◌, None, Ok, Err, codes, if◌then◌else◌, is_some, nat_le, nat_lt, slice_get}
use Rattle.std.specs.List.{flat_map, position}
use Rattle.std.specs.Str.{bytes_eq}
use Rattle.gt_script.specs.Lists.{RunAction, RunTask}
use Rattle.gt_script.specs.RunContents.{RunContents}
use Rattle.gt_script.specs.declared.tasks.RunAction.TheVariants.{Do, Tell, Await}
use Rattle.gt_script_lines.specs.declared.calls.ScriptCall.{ScriptCall}
use Rattle.gt_script_lines.specs.declared.calls.ScriptCall.TheVariants as script_calls
use Rattle.gt_types.specs.declared.DomId.{DomId}
use Rattle.gt_explore_replay.specs.Orders.{MayGive}
use Rattle.gt_explore_verdict.specs.Formulas.{Op, formula_of, satisfies}
use Rattle.gt_explore_verdict.specs.Judging.{VerdictMeans, judged, verdict_at}
use Rattle.gt_explore_verdict.specs.Placing.{first_unanswered}
use Rattle.gt_explore_verdict.specs.Reading.{operations_in}
use Rattle.gt_explore_verdict.specs.declared.calls.CallName.{CallName}
use Rattle.gt_explore_verdict.specs.declared.calls.CallName.TheVariants as call_names
use Rattle.gt_explore_verdict.specs.declared.calls.PlacedCall.{PlacedCall}
use Rattle.gt_explore_verdict.specs.declared.fault.ConditionFault.{ConditionFault}
use Rattle.gt_explore_verdict.specs.declared.fault.ExpressionFault.{ExpressionFault}
use Rattle.gt_explore_verdict.specs.declared.fault.ExpressionFault.TheVariants as expression_faults
use Rattle.gt_explore_verdict.specs.declared.judging.Claim.{Claim}
use Rattle.gt_explore_verdict.specs.declared.judging.Claim.TheVariants.{Find, Never, Always}
use Rattle.gt_explore_verdict.specs.declared.judging.Judgement.{Judgement}
use Rattle.gt_explore_verdict.specs.declared.judging.Verdict.{Verdict}
use Rattle.gt_explore_verdict.specs.declared.judging.Verdict.TheVariants.{Holds, Fails, Undecided}
use Rattle.gt_explore_answers.specs.Texts.{AreAscending, AreDifferentTexts, IsTextAmong}
use Rattle.gt_explore_answers.specs.Outputs.{Found, counterexample_comment, heading, states_line, texts_output}
use Rattle.gt_explore_answers.specs.Outputs.{witness_comment}
use Rattle.gt_explore_answers.specs.Witness.{IsWitness, ShowsAfter}
use Rattle.gt_explore_answers.specs.declared.asking.ExploreRequest.{ExploreRequest}
use Rattle.gt_explore_answers.specs.declared.asking.ExploreRequest.TheVariants as explore_requests

-- these are texts that a script may give, in the order of their bytes, each of them once, and all of them if the search
-- is over
pub record AreTextsOf (c : RunContents) (f : Found) : Type 0 where
  pub possible : All (MayGive c) f.texts
  pub whole : f.whole ≡ true → (text : List ℕ) → MayGive c text → IsTextAmong text f.texts
  pub apart : AreDifferentTexts f.texts
  pub ascending : AreAscending f.texts

-- the kind of a call
abbrev pub name_of_call : ScriptCall → CallName
name_of_call (script_calls.Grant gref entry) = call_names.Grant
name_of_call (script_calls.GrantBytes gref hex) = call_names.GrantBytes
name_of_call (script_calls.Revoke gref) = call_names.Revoke
name_of_call (script_calls.Withdraw gref) = call_names.Withdraw
name_of_call (script_calls.Demote gref) = call_names.Demote
name_of_call (script_calls.Promote gref) = call_names.Promote
name_of_call (script_calls.Map label dom gref flags) = call_names.Map
name_of_call (script_calls.Unmap label) = call_names.Unmap
name_of_call (script_calls.Load label off len) = call_names.Load
name_of_call (script_calls.Store label off hex) = call_names.Store
name_of_call (script_calls.Peek frame off len) = call_names.Peek
name_of_call (script_calls.Poke frame off hex) = call_names.Poke
name_of_call (script_calls.Copy c) = call_names.Copy
name_of_call (script_calls.SetVersion version) = call_names.SetVersion
name_of_call (script_calls.SetupTable frames) = call_names.SetupTable
name_of_call (script_calls.QuerySize dom) = call_names.QuerySize
name_of_call (script_calls.GetVersion dom) = call_names.GetVersion

-- the call of a task, if its action is one
abbrev pub call_by : ℕ → DomId → RunAction → List PlacedCall
call_by line dom (Do call) = record { line = line; dom = dom; call = name_of_call call } ∷ []
call_by line dom (Tell flag) = []
call_by line dom (Await flag) = []

abbrev pub call_of_task : RunTask → List PlacedCall
call_of_task t = call_by t.line t.dom t.run_action

-- the calls of a script, and its domains
abbrev pub calls_in : RunContents → List PlacedCall
calls_in c = flat_map call_of_task c.tasks

abbrev pub ids_in : RunContents → List DomId
ids_in c = map (λ d. d.id) c.head.domains

-- the number and the reason of the first term of an expression that no answer of the script meets
abbrev pub first_unplaced : RunContents → List Op → Option (ℕ × ConditionFault)
first_unplaced c conditions = first_unanswered (calls_in c) (ids_in c) 1 conditions

-- the operations of an expression, of which an answer of the script may meet each term
pub record AreConditions (c : RunContents) (expression : List ℕ) (conditions : List Op) : Type 0 where
  pub read : operations_in expression ≡ Ok conditions
  pub placed : first_unplaced c conditions ≡ None

-- the fault of an expression: the first of its text; if there is none, that of the first term that no answer of the
-- script meets; or an allocation failed
abbrev pub IsExpressionFault : RunContents → List ℕ → ExpressionFault → Type 0
IsExpressionFault c expression expression_faults.Memory = Unit {0}
IsExpressionFault c expression (expression_faults.Term number fault) =
    (operations_in expression ≡ Err (number, fault))
    ⊎ ((conditions : List Op) × (operations_in expression ≡ Ok conditions)
    × (first_unplaced c conditions ≡ Some (number, fault)))

-- which of the texts satisfy the formula of these operations
abbrev pub satisfied : List Op → Found → List Bool
satisfied conditions f = map (satisfies (formula_of conditions)) f.texts

-- the verdict on all texts, if there is nothing to decide
abbrev pub verdict_of_all : Bool → Verdict
verdict_of_all whole = if whole then Holds else Undecided

-- the first line of a verdict that no text shows
abbrev pub verdict_line : Verdict → List ℕ
verdict_line Holds = codes "holds\n"
verdict_line Fails = codes "does not hold\n"
verdict_line Undecided = codes "not decided\n"

-- the output for a claim that no text satisfies the conditions, or that each does: the verdict, or the first text that
-- shows that it does not hold, as a comment, and a script for `play` that gives it, if one was found
abbrev pub IsVerdictOutput : RunContents → Found → Verdict → Option ℕ → List ℕ → Type 0
IsVerdictOutput c f verdict None text = text ≡ verdict_line verdict ++ states_line f
IsVerdictOutput c f verdict (Some at) text =
    (given : List ℕ) × (slice_get f.texts at ≡ Some given)
    × ShowsAfter c.head (counterexample_comment f (at + 1) given) text given

-- the output for a claim, by whether each text satisfies the conditions, and by the judgement
abbrev pub IsClaimOutputBy : RunContents → Claim → Found → List Bool → Judgement → List ℕ → Type 0
IsClaimOutputBy c Find f met judgement text = text ≡ texts_output f met
IsClaimOutputBy c Never f met judgement text = IsVerdictOutput c f judgement.verdict judgement.shown_by text
IsClaimOutputBy c Always f met judgement text = IsVerdictOutput c f judgement.verdict judgement.shown_by text

-- the output for a claim on these conditions
abbrev pub IsClaimOutput : RunContents → Claim → List Op → Found → List ℕ → Type 0
IsClaimOutput c claim conditions f text =
    IsClaimOutputBy c claim f (satisfied conditions f) (judged claim (satisfied conditions f) f.whole) text

-- the index of a text among these
abbrev pub index_of_text : List ℕ → List (List ℕ) → Option ℕ
index_of_text text texts = position (λ other. bytes_eq other text) texts

-- the output for the question whether a text is one of these: its number
abbrev pub number_output : Found → Option ℕ → List ℕ
number_output f None = states_line f
number_output f (Some at) = heading f.whole (length f.texts) (at + 1) ++ codes "\n" ++ states_line f

-- what a verdict on a text means: the script may give it, or it may not
abbrev pub MeansGiven : RunContents → List ℕ → Verdict → Type 0
MeansGiven c text Holds = MayGive c text
MeansGiven c text Fails = MayGive c text → ⊥
MeansGiven c text Undecided = Unit {0}

-- the output of a script for each of these texts, each under the number of its text, the first of them under the
-- number after this one
abbrev pub AreWitnessOutputs : RunContents → Found → ℕ → List (List ℕ) → List ℕ → Type 0
AreWitnessOutputs c f before [] out = out ≡ []
AreWitnessOutputs c f before (text ∷ texts) out =
    (script : List ℕ) × (rest : List ℕ) × (out ≡ witness_comment f (before + 1) ++ (script ++ rest))
    × ShowsAfter c.head [] script text × AreWitnessOutputs c f (before + 1) texts rest

-- the conditions that a request states: those of the expression of a claim
abbrev pub AreAsked : RunContents → ExploreRequest → List Op → Type 0
AreAsked c explore_requests.Texts conditions = Unit {0}
AreAsked c (explore_requests.Decide claim expression) conditions = AreConditions c expression.now conditions
AreAsked c (explore_requests.Has given) conditions = Unit {0}
AreAsked c (explore_requests.Witness number) conditions = Unit {0}
AreAsked c explore_requests.Witnesses conditions = Unit {0}

-- the fault of the expression of a request; without one, only an allocation fails
abbrev pub IsFaultAsked : RunContents → ExploreRequest → ExpressionFault → Type 0
IsFaultAsked c (explore_requests.Decide claim expression) fault = IsExpressionFault c expression.now fault
IsFaultAsked c request expression_faults.Memory = Unit {0}
IsFaultAsked c request (expression_faults.Term number fault) = ⊥

-- if there are `count` texts, one has the number that a request names; a request that names none has what it needs
abbrev pub has_its_text : ExploreRequest → ℕ → Bool
has_its_text explore_requests.Texts count = true
has_its_text (explore_requests.Decide claim expression) count = true
has_its_text (explore_requests.Has given) count = true
has_its_text (explore_requests.Witness number) count = nat_lt 0 number && nat_le number count
has_its_text explore_requests.Witnesses count = true

-- ---- the output and the verdict, for the texts that were found

-- the texts, each under its number
abbrev pub GivesTexts : Found → List ℕ → Verdict → Type 0
GivesTexts f text verdict = (text ≡ texts_output f (satisfied [] f)) × (verdict ≡ verdict_of_all f.whole)

-- a claim on these conditions is decided
pub record DecidesClaim (c : RunContents) (claim : Claim) (conditions : List Op) (f : Found) (text : List ℕ)
    (verdict : Verdict) : Type 0 where
  pub is : verdict ≡ (judged claim (satisfied conditions f) f.whole).verdict
  pub means : VerdictMeans (MayGive c) claim (formula_of conditions) verdict
  pub output : IsClaimOutput c claim conditions f text

-- the number of a text that the script may give
pub record NumbersText (c : RunContents) (given : List ℕ) (f : Found) (text : List ℕ) (verdict : Verdict) : Type 0 where
  pub is : verdict ≡ verdict_at Find (is_some (index_of_text given f.texts)) f.whole
  pub means : MeansGiven c given verdict
  pub output : text ≡ number_output f (index_of_text given f.texts)

-- a script for `play` that gives the answers of the text of a number, if one was found
abbrev pub GivesWitness : RunContents → ℕ → Found → List ℕ → Verdict → Type 0
GivesWitness c number f text verdict = IsWitness c.head f.texts number text × (verdict ≡ verdict_of_all f.whole)

-- such a script for each text
abbrev pub GivesWitnesses : RunContents → Found → List ℕ → Verdict → Type 0
GivesWitnesses c f text verdict = AreWitnessOutputs c f 0 f.texts text × (verdict ≡ verdict_of_all f.whole)

-- the output and the verdict, by the request
abbrev pub IsOutputBy : RunContents → ExploreRequest → List Op → Found → List ℕ → Verdict → Type 0
IsOutputBy c explore_requests.Texts conditions = GivesTexts
IsOutputBy c (explore_requests.Decide claim expression) conditions = DecidesClaim c claim conditions
IsOutputBy c (explore_requests.Has given) conditions = NumbersText c given.now
IsOutputBy c (explore_requests.Witness number) conditions = GivesWitness c number
IsOutputBy c explore_requests.Witnesses conditions = GivesWitnesses c
