-- What was made and written for a script with choices, by the result.
use Rattle.std.proofs.Common.{◌≡◌, ◌∙◌, ℕ, List, None, Some, Result, Ok, Err, inl, inr}
use Rattle.std.proofs.Common.{slice_get, subst, sym}
use Rattle.std.specs.Str.Lines.{lines as lines_in}
use Rattle.std.proofs.lemmas.Option.{same_Some}
use Rattle.gt_call_names.specs.Naming.{IsNumberingFault}
use Rattle.gt_call_names.specs.declared.fault.NameFault.{NameFault}
use Rattle.gt_call_names.specs.declared.fault.NameFault.TheVariants as name_faults
use Rattle.gt_explore_answers.specs.Exploring.{AreConditions, IsExpressionFault}
use Rattle.gt_explore_answers.specs.declared.answering.ExploreOutput.{ExploreOutput}
use Rattle.gt_explore_answers.specs.declared.asking.ExploreRequest.{ExploreRequest}
use Rattle.gt_explore_choices.specs.Choices.{IsChoiceOf, whole_text}
use Rattle.gt_explore_faults.specs.Faults.{expression_fault}
use Rattle.gt_explore_faults.specs.declared.claims.ClaimsFault.{ClaimsFault}
use Rattle.gt_explore_faults.specs.declared.fault.ExploreFault.{ExploreFault}
use Rattle.gt_explore_faults.specs.declared.fault.ExploreFault.TheVariants.{Play, Term, Text, Number, Unfound, Texts}
use Rattle.gt_explore_by_choice.specs.Exploring.{AreChoicesOf, IsClaimsFault, IsExploreFault, IsFaultOfChoice, IsSearchFault}
use Rattle.gt_explore_by_choice.specs.Exploring.{MakesOfChoices, MakesOnConditions, MakesOnExpression, expression_numbered, names_unread, request_expression}
use Rattle.gt_explore_by_choice.specs.Gathering.{IsFaultAmong, IsFaultOfText}
use Rattle.gt_explore_by_choice.proofs.United.{given}
use Rattle.gt_explore_verdict.specs.Formulas.{Op}
use Rattle.gt_explore_verdict.specs.declared.fault.ExpressionFault.{ExpressionFault}
use Rattle.gt_explore_verdict.specs.declared.fault.ExpressionFault.TheVariants as expression_faults
use Rattle.gt_script.specs.RunContents.{RunContents}
use Rattle.gt_script.specs.RunScripts.{RunAnswers, ReadsAsRun}
use Rattle.gt_script.specs.declared.faults.ScriptError.{ScriptError}
use Rattle.gt_script.specs.declared.faults.ScriptError.TheVariants as script_errors
use Rattle.gt_script_runs.specs.Faults.{fault_of}
use Rattle.gt_script_runs.specs.declared.fault.PlayFault.{PlayFault}

-- ---- faults of choices

fault_of_one : (source : List ℕ) (choices : List (List ℕ)) (fault : ExploreFault) → AreChoicesOf source choices
    → (at : ℕ) × (choice : List ℕ) × (slice_get choices at ≡ Some choice) × IsFaultOfText choice fault → IsFaultOfChoice source fault
fault_of_one source choices fault are (at, choice, is, f) = (choice, given (IsChoiceOf source) choices at choice are.each is, f)

-- the fault of one of the choices is one of the search
pub fault_among : (source : List ℕ) (request : ExploreRequest) (choices : List (List ℕ)) (fault : ExploreFault) → AreChoicesOf source choices → IsFaultAmong choices fault → IsSearchFault source request fault
fault_among source request choices (Texts fault) are f = tt
fault_among source request choices (Play fault) are f = fault_of_one source choices (Play fault) are f
fault_among source request choices Number are f = absurd f.3
fault_among source request choices Unfound are f = absurd f.3
fault_among source request choices (Term number fault) are f = absurd f.3
fault_among source request choices (Text line fault) are f = absurd f.3

-- ---- expressions

-- what was made on these conditions was made on the expression that states them
pub on_expression : (source : List ℕ) (request : ExploreRequest) (base : RunContents) (expression : List ℕ) (conditions : List Op) (r : Result ExploreOutput ExploreFault) → AreConditions base expression conditions
    → MakesOnConditions source request conditions r → MakesOnExpression source request base expression r
on_expression source request base expression conditions (Ok made) are makes = (conditions, are, makes)
on_expression source request base expression conditions (Err fault) are makes = inr makes

-- a fault of the search
search_so : (source : List ℕ) (request : ExploreRequest) (fault : ExploreFault) → IsSearchFault source request fault → IsExploreFault source request fault
search_so source request (Play fault) is = is
search_so source request (Term number fault) is = absurd is
search_so source request Number is = is
search_so source request Unfound is = is
search_so source request (Text line fault) is = absurd is
search_so source request (Texts fault) is = is

-- a fault of the expression
expression_so : (source named : List ℕ) (request : ExploreRequest) (base : RunContents) (wrong : ExpressionFault) → ReadsAsRun (whole_text source) (Ok base) → request_expression request ≡ Some named
    → IsExpressionFault base (expression_numbered source named) wrong → IsExploreFault source request (expression_fault wrong)
expression_so source named request base expression_faults.Memory reads asked is = tt
expression_so source named request base (expression_faults.Term number fault) reads asked is =
    record { base = base; reads = reads; expression = named; asked = asked; is = is }

-- nothing was made on the expression
pub unmade_so : (source named expression : List ℕ) (request : ExploreRequest) (base : RunContents) (fault : ExploreFault) → ReadsAsRun (whole_text source) (Ok base) → request_expression request ≡ Some named
    → expression ≡ expression_numbered source named → MakesOnExpression source request base expression (Err fault) → IsExploreFault source request fault
unmade_so source named expression request base fault reads asked same (inl (wrong, is, of)) =
    subst (IsExploreFault source request) (sym is) (expression_so source named request base wrong reads asked (subst (λ (e : List ℕ). IsExpressionFault base e wrong) same of))
unmade_so source named expression request base fault reads asked same (inr of) = search_so source request fault of

-- it was made on the expression
pub made_so_named : (source named expression : List ℕ) (request : ExploreRequest) (base : RunContents) (made : ExploreOutput) → ReadsAsRun (whole_text source) (Ok base) → request_expression request ≡ Some named
    → expression ≡ expression_numbered source named → MakesOnExpression source request base expression (Ok made) → MakesOfChoices source request (Ok made)
made_so_named source named expression request base made reads asked same (conditions, are, on) = record {
  base = base;
  reads = reads;
  conditions = conditions;
  read = rw asked (subst (λ (e : List ℕ). AreConditions base e conditions) same are);
  on = on;
}

-- the names have a fault
names_fault : (source named : List ℕ) (request : ExploreRequest) (fault : NameFault) → request_expression request ≡ Some named → IsNumberingFault (lines_in (whole_text source)) named fault
    → IsClaimsFault source request (names_unread fault)
names_fault source named request name_faults.Memory asked is = tt
names_fault source named request (name_faults.Repeated first second) asked is = (named, asked, is)

pub unnamed_so : (source named whole : List ℕ) (request : ExploreRequest) (fault : NameFault) (claims : ClaimsFault) → request_expression request ≡ Some named → whole ≡ whole_text source
    → IsNumberingFault (lines_in whole) named fault → claims ≡ names_unread fault → IsClaimsFault source request claims
unnamed_so source named whole request fault claims asked same is from =
    subst (IsClaimsFault source request) (sym from) (names_fault source named request fault asked (subst (λ (w : List ℕ). IsNumberingFault (lines_in w) named fault) same is))

-- ---- no expression

pub made_so_plain : (source : List ℕ) (request : ExploreRequest) (base : RunContents) (conditions : List Op) (made : ExploreOutput) → ReadsAsRun (whole_text source) (Ok base) → request_expression request ≡ None
    → MakesOnConditions source request conditions (Ok made) → MakesOfChoices source request (Ok made)
made_so_plain source request base conditions made reads asked on =
    record { base = base; reads = reads; conditions = conditions; read = rw asked tt; on = on }

pub unmade_plain : (source : List ℕ) (request : ExploreRequest) (conditions : List Op) (fault : ExploreFault) → MakesOnConditions source request conditions (Err fault) → IsExploreFault source request fault
unmade_plain source request conditions fault is = search_so source request fault is

-- ---- the first choice

-- the first fault of a text as a script is one of the text
no_script : (text : List ℕ) (error : ScriptError) → RunAnswers (Err error) (ReadsAsRun text) → IsFaultOfText text (Play (fault_of error))
no_script text script_errors.Memory told = tt
no_script text (script_errors.Fault f) told = told
no_script text (script_errors.Policy f) told = told

-- the script in which nothing is left out has a fault
pub unread_whole : (source whole : List ℕ) (choices : List (List ℕ)) (request : ExploreRequest) (error : ScriptError) (play : PlayFault) → AreChoicesOf source choices → whole ≡ whole_text source
    → RunAnswers (Err error) (ReadsAsRun whole) → play ≡ fault_of error → IsExploreFault source request (Play play)
unread_whole source whole choices request error play are same told from =
    subst (λ (f : PlayFault). IsFaultOfChoice source (Play f)) (sym from)
    (whole_text source, given (IsChoiceOf source) choices 0 (whole_text source) are.each are.first, subst (λ (t : List ℕ). IsFaultOfText t (Play (fault_of error))) same (no_script whole error told))

-- the first choice is it
pub first_is : (source whole : List ℕ) (choices : List (List ℕ)) → AreChoicesOf source choices → slice_get choices 0 ≡ Some whole → whole ≡ whole_text source
first_is source whole choices are is = same_Some whole (whole_text source) (sym is ∙ are.first)
