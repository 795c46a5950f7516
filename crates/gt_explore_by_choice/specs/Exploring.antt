-- What `explore` writes for a script with choices, by the result.
use Rattle.std.specs.Prelude.{◌≡◌, ◌⊎◌, ℕ, Bool, true, false, List, All, Option, Some, None, IfSome, Ok, Result, Err}
use Rattle.std.specs.Prelude.{slice_get}
use Rattle.std.specs.Io.KnownBytes.{Appends, Keeps}
use Rattle.std.specs.List.{slice_split}
use Rattle.std.specs.Str.Lines.{lines as lines_in}
use Rattle.gt_call_names.specs.Naming.{first_repeated, is_break, with_line_numbers}
use Rattle.gt_call_names.specs.declared.fault.NameFault.{NameFault}
use Rattle.gt_call_names.specs.declared.fault.NameFault.TheVariants as name_faults
use Rattle.gt_script.specs.RunContents.{RunContents}
use Rattle.gt_script.specs.RunScripts.{ReadsAsRun}
use Rattle.gt_script_runs.specs.declared.fault.PlayFault.TheVariants as play_faults
use Rattle.gt_text.specs.Streams.{AppendsBeginning}
use Rattle.gt_explore_answers.specs.Exploring.{AreConditions, IsExpressionFault}
use Rattle.gt_explore_answers.specs.declared.answering.ExploreOutput.{ExploreOutput}
use Rattle.gt_explore_answers.specs.declared.asking.ExploreFormat.{ExploreFormat}
use Rattle.gt_explore_answers.specs.declared.asking.ExploreFormat.TheVariants as explore_formats
use Rattle.gt_explore_answers.specs.declared.asking.ExploreOptions.{ExploreOptions}
use Rattle.gt_explore_answers.specs.declared.asking.ExploreRequest.{ExploreRequest}
use Rattle.gt_explore_answers.specs.declared.asking.ExploreRequest.TheVariants as explore_requests
use Rattle.gt_explore_choices.specs.Choices.{IsOneOf, IsChoiceOf, whole_text}
use Rattle.gt_explore_choices.specs.declared.fault.ChoicesFault.{ChoicesFault}
use Rattle.gt_explore_choices.specs.declared.fault.ChoicesFault.TheVariants as choices_faults
use Rattle.gt_explore_faults.specs.Faults.{expression_fault}
use Rattle.gt_explore_faults.specs.declared.claims.ClaimsFault.{ClaimsFault}
use Rattle.gt_explore_faults.specs.declared.claims.ClaimsFault.TheVariants as claims_faults
use Rattle.gt_explore_faults.specs.declared.fault.ExploreFault.{ExploreFault}
use Rattle.gt_explore_faults.specs.declared.fault.ExploreFault.TheVariants.{Play, Term, Text, Number, Unfound, Texts}
use Rattle.gt_explore_faults.specs.declared.fault.TextsFault.TheVariants as texts_faults
use Rattle.gt_explore_by_choice.specs.Answering.{IsOnConditions, LacksByChoices}
use Rattle.gt_explore_by_choice.specs.Gathering.{IsFaultOfText}
use Rattle.gt_explore_by_choice.specs.declared.fault.UnitedFault.{UnitedFault}
use Rattle.gt_explore_by_choice.specs.declared.fault.UnitedFault.TheVariants.{Claims, Choices}
use Rattle.gt_explore_verdict.specs.Formulas.{Op}
use Rattle.gt_explore_verdict.specs.declared.fault.ExpressionFault.{ExpressionFault}
use Rattle.gt_explore_verdict.specs.declared.fault.ExpressionFault.TheVariants as expression_faults
use Rattle.gt_explore_verdict.specs.declared.judging.Verdict.{Verdict}

-- the request has an answer as text
abbrev pub is_answered_in_text : ExploreRequest → Bool
is_answered_in_text explore_requests.Texts = true
is_answered_in_text (explore_requests.Decide claim expression) = true
is_answered_in_text (explore_requests.Has given) = true
is_answered_in_text (explore_requests.Witness number) = true
is_answered_in_text explore_requests.Witnesses = false

-- the request has an answer in this format
abbrev pub has_answer : ExploreRequest → ExploreFormat → Bool
has_answer request explore_formats.Json = false
has_answer request explore_formats.Text = is_answered_in_text request

-- these are the choices of a script, the first of them the one in which nothing is left out
pub record AreChoicesOf (source : List ℕ) (choices : List (List ℕ)) : Type 0 where
  pub each : All (IsChoiceOf source) choices
  pub whole : (text : List ℕ) → IsChoiceOf source text → IsOneOf text choices
  pub first : slice_get choices 0 ≡ Some (whole_text source)

-- the fault of one of the choices
abbrev pub IsFaultOfChoice : List ℕ → ExploreFault → Type 0
IsFaultOfChoice source fault = (choice : List ℕ) × IsChoiceOf source choice × IsFaultOfText choice fault

-- the fault of one of the choices or of their searches, or no text has the number that the request names
abbrev pub IsSearchFault : List ℕ → ExploreRequest → ExploreFault → Type 0
IsSearchFault source request (Play fault) = IsFaultOfChoice source (Play fault)
IsSearchFault source request (Term number fault) = ⊥
IsSearchFault source request Number = LacksByChoices source request true
IsSearchFault source request Unfound = LacksByChoices source request false
IsSearchFault source request (Text line fault) = ⊥
IsSearchFault source request (Texts fault) = Unit {0}

-- what was made on these conditions
abbrev pub MakesOnConditions : List ℕ → ExploreRequest → List Op → Result ExploreOutput ExploreFault → Type 0
MakesOnConditions source request conditions (Ok made) =
    IsOnConditions source request conditions made.text.items made.verdict
MakesOnConditions source request conditions (Err fault) = IsSearchFault source request fault

-- what was made on the conditions of an expression about the calls of a script
abbrev pub MakesOnExpression : List ℕ → ExploreRequest → RunContents → List ℕ → Result ExploreOutput ExploreFault
    → Type 0
MakesOnExpression source request base expression (Ok made) =
    (conditions : List Op) × AreConditions base expression conditions
    × IsOnConditions source request conditions made.text.items made.verdict
MakesOnExpression source request base expression (Err fault) =
    ((wrong : ExpressionFault) × (fault ≡ expression_fault wrong) × IsExpressionFault base expression wrong)
    ⊎ IsSearchFault source request fault

-- the expression of a request; only a claim has one
abbrev pub request_expression : ExploreRequest → Option (List ℕ)
request_expression explore_requests.Texts = None
request_expression (explore_requests.Decide claim expression) = Some expression.now
request_expression (explore_requests.Has given) = None
request_expression (explore_requests.Witness number) = None
request_expression explore_requests.Witnesses = None

-- an expression with numbers in place of the names of calls; a `maybe` line names its call too
abbrev pub expression_numbered : List ℕ → List ℕ → List ℕ
expression_numbered source expression = with_line_numbers (lines_in (whole_text source)) expression

-- the conditions of a request, by the script in which nothing is left out
abbrev pub AreConditionsOf : List ℕ → RunContents → ExploreRequest → List Op → Type 0
AreConditionsOf source base request conditions =
    IfSome (request_expression request) (λ e. AreConditions base (expression_numbered source e) conditions)

-- the output for a script with choices, and the verdict
pub record IsMadeByChoices (source : List ℕ) (request : ExploreRequest) (out : List ℕ) (verdict : Verdict) : Type 0 where
  pub base : RunContents
  pub reads : ReadsAsRun (whole_text source) (Ok base)
  pub conditions : List Op
  pub read : AreConditionsOf source base request conditions
  pub on : IsOnConditions source request conditions out verdict

-- a term of the expression has a fault: the first of the expression
pub record IsTermFault (source : List ℕ) (request : ExploreRequest) (wrong : ExpressionFault) : Type 0 where
  pub base : RunContents
  pub reads : ReadsAsRun (whole_text source) (Ok base)
  pub expression : List ℕ
  pub asked : request_expression request ≡ Some expression
  pub is : IsExpressionFault base (expression_numbered source expression) wrong

-- a name of the expression is that of the calls on both lines
abbrev pub NamesTwo : List ℕ → ExploreRequest → ℕ × ℕ → Type 0
NamesTwo source request both =
    (expression : List ℕ) × (request_expression request ≡ Some expression)
    × (first_repeated (lines_in (whole_text source)) (slice_split is_break expression) ≡ Some both)

-- the fault of the names of an expression as one of an exploration
abbrev pub names_unread : NameFault → ClaimsFault
names_unread name_faults.Memory = claims_faults.Explore (Texts texts_faults.Memory)
names_unread (name_faults.Repeated first second) = claims_faults.Repeated first second

-- the reason that nothing was made: a fault of the expression, or one of the search
abbrev pub IsExploreFault : List ℕ → ExploreRequest → ExploreFault → Type 0
IsExploreFault source request (Play fault) = IsSearchFault source request (Play fault)
IsExploreFault source request (Term number fault) = IsTermFault source request (expression_faults.Term number fault)
IsExploreFault source request Number = IsSearchFault source request Number
IsExploreFault source request Unfound = IsSearchFault source request Unfound
IsExploreFault source request (Text line fault) = ⊥
IsExploreFault source request (Texts fault) = Unit {0}

abbrev pub IsClaimsFault : List ℕ → ExploreRequest → ClaimsFault → Type 0
IsClaimsFault source request (claims_faults.Explore fault) = IsExploreFault source request fault
IsClaimsFault source request (claims_faults.Kind number) = ⊥
IsClaimsFault source request (claims_faults.Term claim number fault) = ⊥
IsClaimsFault source request (claims_faults.Repeated first second) = NamesTwo source request (first, second)
IsClaimsFault source request (claims_faults.Precedence fault) = ⊥
IsClaimsFault source request claims_faults.Astray = Unit {0}

-- the request has no answer for a script with choices, there are too many of them, or an allocation failed
abbrev pub IsChoicesFault : ExploreOptions → ChoicesFault → Type 0
IsChoicesFault asked choices_faults.Unanswered = has_answer asked.request asked.format ≡ false
IsChoicesFault asked choices_faults.Many = Unit {0}
IsChoicesFault asked choices_faults.Memory = Unit {0}

abbrev pub IsFaultByChoices : List ℕ → ExploreOptions → UnitedFault → Type 0
IsFaultByChoices source asked (Claims fault) = IsClaimsFault source asked.request fault
IsFaultByChoices source asked (Choices fault) = IsChoicesFault asked fault

-- what was made of a script with choices
abbrev pub MakesOfChoices : List ℕ → ExploreRequest → Result ExploreOutput ClaimsFault → Type 0
MakesOfChoices source request (Ok made) = IsMadeByChoices source request made.text.items made.verdict
MakesOfChoices source request (Err fault) = IsClaimsFault source request fault

abbrev pub MakesByChoices : List ℕ → ExploreOptions → Result ExploreOutput UnitedFault → Type 0
MakesByChoices source asked (Ok made) = IsMadeByChoices source asked.request made.text.items made.verdict
MakesByChoices source asked (Err fault) = IsFaultByChoices source asked fault

-- the fault that a write failed
abbrev pub write_failed : UnitedFault
write_failed = Claims (claims_faults.Explore (Play play_faults.Write))

-- what was written, by the result: at Ok the whole output, after a failed write a prefix of it, and otherwise nothing
abbrev pub ExploresByChoices : List ℕ → ExploreOptions → Option (List ℕ) → Option (List ℕ) → Result Verdict UnitedFault
    → Type 0
ExploresByChoices source asked old new (Ok verdict) =
    (out : List ℕ) × IsMadeByChoices source asked.request out verdict × Appends old new out
ExploresByChoices source asked old new (Err fault) =
    (IsFaultByChoices source asked fault × Keeps old new)
    ⊎ ((fault ≡ write_failed)
    × ((out : List ℕ) × (verdict : Verdict) × IsMadeByChoices source asked.request out verdict
    × AppendsBeginning old new out))
