-- What is written of a claim about the orders of a script, by the result.
use Rattle.std.specs.Prelude.{◌≡◌, ◌⊎◌, ℕ, List, [], take, Option, Some, Result, Ok, Err}
use Rattle.std.specs.Io.KnownBytes.{Appends, Keeps}
use Rattle.std.specs.List.{slice_split}
use Rattle.std.specs.Str.Lines.{lines as lines_in}
use Rattle.gt_explore_answers.specs.Exploring.{IsExpressionFault}
use Rattle.gt_explore_answers.specs.declared.answering.ExploreOutput.{ExploreOutput}
use Rattle.gt_explore_faults.specs.Faults.{claims_memory}
use Rattle.gt_explore_faults.specs.declared.claims.ClaimsFault.{ClaimsFault}
use Rattle.gt_explore_faults.specs.declared.claims.ClaimsFault.TheVariants as claims_faults
use Rattle.gt_explore_faults.specs.declared.fault.ExploreFault.TheVariants.{Play, Term, Texts}
use Rattle.gt_explore_faults.specs.declared.fault.TextsFault.{TextsFault}
use Rattle.gt_explore_verdict.specs.declared.fault.ConditionFault.{ConditionFault}
use Rattle.gt_explore_verdict.specs.declared.fault.ExpressionFault.TheVariants as expression_faults
use Rattle.gt_explore_verdict.specs.declared.judging.Verdict.{Verdict}
use Rattle.gt_script.specs.Lists.{RunTask}
use Rattle.gt_script.specs.RunContents.{RunContents}
use Rattle.gt_script.specs.RunScripts.{ReadsAsRun, RunAnswers}
use Rattle.gt_script.specs.declared.faults.ScriptError.{ScriptError}
use Rattle.gt_script.specs.declared.precedence.Precedence.{Precedence}
use Rattle.gt_script_runs.specs.Faults.{fault_of}
use Rattle.gt_script_runs.specs.declared.fault.PlayFault.TheVariants.{Write}
use Rattle.gt_text.specs.Streams.{AppendsBeginning}
use Rattle.gt_text.specs.declared.streams.TheConstants.{READ_LIMIT}
use Rattle.gt_explore_precedence.specs.Judging.{JudgesOrders, expression_in, satisfied_in}
use Rattle.gt_explore_precedence.specs.Pairs.{ArePairs, IsPairsFault}
use Rattle.gt_explore_precedence.specs.Replacing.{is_join}
use Rattle.gt_explore_precedence.specs.Showing.{IsOrderOutput, orders_found}
use Rattle.gt_explore_precedence.specs.declared.exploring.PrecedenceOptions.{PrecedenceOptions}
use Rattle.gt_explore_precedence.specs.declared.judging.JudgedOrders.{JudgedOrders}

-- these are the calls that the terms of order of an expression name
abbrev pub AreOrderPairs : List (List ℕ) → List RunTask → List ℕ → List Precedence → Type 0
AreOrderPairs lines tasks expression pairs = ArePairs lines tasks (slice_split is_join expression) pairs

-- one of them does not name two calls, or an allocation failed
abbrev pub IsPairsWrong : List (List ℕ) → List RunTask → List ℕ → ClaimsFault → Type 0
IsPairsWrong lines tasks expression fault = IsPairsFault lines tasks (slice_split is_join expression) fault

-- the first fault of an expression, with a term that some texts meet in place of each term of order: a name is that of
-- two calls, or a term is wrong; or it is not text, or an allocation failed
abbrev pub IsExpressionWrong : RunContents → List (List ℕ) → List ℕ → ClaimsFault → Type 0
IsExpressionWrong c lines expression fault =
    (fault ≡ claims_memory) ⊎ (fault ≡ claims_faults.Astray)
    ⊎ ((both : ℕ × ℕ) × (fault ≡ claims_faults.Repeated both.0 both.1))
    ⊎ ((number : ℕ) × (of_term : ConditionFault) × (fault ≡ claims_faults.Explore (Term number of_term))
    × IsExpressionFault c (expression_in lines expression []) (expression_faults.Term number of_term))

-- a claim that was judged is shown so
abbrev pub IsShownWithVerdict : PrecedenceOptions → JudgedOrders → List ℕ → Verdict → Type 0
IsShownWithVerdict asked j text verdict =
    (verdict ≡ j.judgement.verdict)
    × IsOrderOutput (record { claim = asked.claim; judgement = j.judgement; states = asked.states; format = asked.format })
    (orders_found j.found) j.met.items text

-- a claim was judged by texts of the script with their precedences, and this is printed
abbrev pub IsOrderAnswer : RunContents → List (List ℕ) → PrecedenceOptions → List Precedence → List ℕ → Verdict → Type 0
IsOrderAnswer c lines asked pairs text verdict =
    (j : JudgedOrders) × JudgesOrders c pairs asked.claim (satisfied_in lines asked.expression.now) j
    × IsShownWithVerdict asked j text verdict

-- the answer for a script with these lines, by the calls that the terms of order name
abbrev pub AnswersOrders : RunContents → List (List ℕ) → PrecedenceOptions → List ℕ → Verdict → Type 0
AnswersOrders c lines asked text verdict =
    (pairs : List Precedence) × AreOrderPairs lines c.tasks asked.expression.now pairs
    × IsOrderAnswer c lines asked pairs text verdict

-- a term of order does not name two calls, the expression is wrong, or the search failed
abbrev pub IsOrdersFault : RunContents → List (List ℕ) → List ℕ → ClaimsFault → Type 0
IsOrdersFault c lines expression fault =
    IsPairsWrong lines c.tasks expression fault ⊎ IsExpressionWrong c lines expression fault
    ⊎ ((failed : TextsFault) × (fault ≡ claims_faults.Explore (Texts failed)))

-- the answer for a script; or there is none
abbrev pub MakesOrders : RunContents → List (List ℕ) → PrecedenceOptions → Result ExploreOutput ClaimsFault → Type 0
MakesOrders c lines asked (Ok made) = AnswersOrders c lines asked made.text.items made.verdict
MakesOrders c lines asked (Err fault) = IsOrdersFault c lines asked.expression.now fault

-- a write failed: a prefix of the answer was written
abbrev pub IsCutOff : RunContents → List (List ℕ) → PrecedenceOptions → Option (List ℕ) → Option (List ℕ) → ClaimsFault
    → Type 0
IsCutOff c lines asked old new fault =
    (fault ≡ claims_faults.Explore (Play Write))
    × ((text : List ℕ) × (verdict : Verdict) × AnswersOrders c lines asked text verdict × AppendsBeginning old new text)

-- what was written of a claim about the orders of a script: the answer, a prefix of it after a failed write, and otherwise
-- nothing
abbrev pub OrdersWritten : RunContents → List (List ℕ) → PrecedenceOptions → Option (List ℕ) → Option (List ℕ)
    → Result Verdict ClaimsFault → Type 0
OrdersWritten c lines asked old new (Ok verdict) =
    (text : List ℕ) × AnswersOrders c lines asked text verdict × Appends old new text
OrdersWritten c lines asked old new (Err fault) =
    (IsOrdersFault c lines asked.expression.now fault × Keeps old new) ⊎ IsCutOff c lines asked old new fault

-- the bytes are no script: this is its first fault
abbrev pub IsUnparsed : List ℕ → Result Verdict ClaimsFault → Type 0
IsUnparsed input r =
    (error : ScriptError) × RunAnswers (Err error) (ReadsAsRun input)
    × (r ≡ Err (claims_faults.Explore (Play (fault_of error))))

-- the same for the script that these bytes mean
abbrev pub OrdersExplored : List ℕ → PrecedenceOptions → Option (List ℕ) → Option (List ℕ)
    → Result Verdict ClaimsFault → Type 0
OrdersExplored input asked old new r =
    ((c : RunContents) × ReadsAsRun input (Ok c) × OrdersWritten c (lines_in (take READ_LIMIT input)) asked old new r)
    ⊎ (IsUnparsed input r × Keeps old new)
