-- From claims that were judged to what was written.
use Rattle.std.proofs.Common.{◌≡◌, ◌∷◌, [], ◌||◌, IfOk, List, Bool, Option, Result, Ok, Err, ℕ, ap, inl, inr, map, refl, subst, sym, take, ◌∙◌}
use Rattle.std.specs.List.{list_any}
use Rattle.std.specs.Str.Lines.{lines as lines_in}
use Rattle.gt_explore_answers.specs.declared.answering.ExploreOutput.{ExploreOutput}
use Rattle.gt_explore_faults.specs.declared.claims.ClaimsFault.{ClaimsFault}
use Rattle.gt_explore_faults.specs.declared.claims.ClaimsFault.TheVariants as claims_faults
use Rattle.gt_explore_faults.specs.declared.fault.ExploreFault.TheVariants.{Play}
use Rattle.gt_explore_faults.specs.declared.fault.TextsFault.{TextsFault}
use Rattle.gt_explore_verdict.specs.declared.judging.Verdict.{Verdict}
use Rattle.gt_script.specs.RunContents.{RunContents}
use Rattle.gt_script.specs.RunScripts.{ReadsAsRun, RunAnswers}
use Rattle.gt_script.specs.declared.faults.ScriptError.{ScriptError}
use Rattle.gt_script.specs.declared.precedence.Precedence.{Precedence}
use Rattle.gt_script_runs.specs.Faults.{fault_of}
use Rattle.gt_script_runs.specs.declared.fault.PlayFault.{PlayFault}
use Rattle.gt_script_runs.specs.declared.fault.PlayFault.TheVariants.{Write}
use Rattle.gt_text.specs.Laws.{keeps_same}
use Rattle.gt_text.specs.Streams.{AppendsBeginning}
use Rattle.gt_text.specs.declared.streams.TheConstants.{READ_LIMIT}
use Rattle.gt_explore_precedence.specs.Judging.{JudgesOrders, satisfied_in}
use Rattle.gt_explore_precedence.specs.Orders.{AnswersOrders, IsExpressionWrong, IsOrderAnswer, IsShownWithVerdict, OrdersExplored}
use Rattle.gt_explore_precedence.specs.Orders.{OrdersWritten}
use Rattle.gt_explore_precedence.specs.declared.exploring.PrecedenceOptions.{PrecedenceOptions}
use Rattle.gt_explore_precedence.specs.declared.judging.JudgedOrders.{JudgedOrders}

-- a test of elements that were mapped
pub any_mapped : {X Y : Type 0} (p : X → Bool) (h : Y → X) (ys : List Y) → list_any (λ y. p (h y)) ys ≡ list_any p (map h ys)
any_mapped p h [] = refl
any_mapped p h (y ∷ ys) = ap (λ b. p (h y) || b) (any_mapped p h ys)

-- a claim that was judged, as it is shown
pub answered : (c : RunContents) (lines : List (List ℕ)) (asked : PrecedenceOptions) (pairs : List Precedence) (expression : List ℕ) → expression ≡ asked.expression.now → (j : JudgedOrders)
    (r : Result ExploreOutput TextsFault) → JudgesOrders c pairs asked.claim (satisfied_in lines expression) j → IfOk r (λ made. IsShownWithVerdict asked j made.text.items made.verdict)
    → IfOk r (λ made. IsOrderAnswer c lines asked pairs made.text.items made.verdict)
answered c lines asked pairs expression is j (Ok made) judges shown = (j, subst (λ (e : List ℕ). JudgesOrders c pairs asked.claim (satisfied_in lines e) j) is judges, shown)
answered c lines asked pairs expression is j (Err fault) judges shown = tt

-- a name of an expression is that of two calls
pub repeated_wrong : (c : RunContents) (lines : List (List ℕ)) (expression : List ℕ) (first second : ℕ) → IsExpressionWrong c lines expression (claims_faults.Repeated first second)
repeated_wrong c lines expression first second = inr (inr (inl ((first, second), refl)))

-- a write failed
pub cut_off : (c : RunContents) (lines : List (List ℕ)) (asked : PrecedenceOptions) (text slice : List ℕ) (verdict : Verdict) (old new : Option (List ℕ)) → AnswersOrders c lines asked text verdict
    → slice ≡ text → AppendsBeginning old new slice → OrdersWritten c lines asked old new (Err (claims_faults.Explore (Play Write)))
cut_off c lines asked text slice verdict old new answers is beginning = inr (refl, (text, verdict, answers, subst (AppendsBeginning old new) is beginning))

module _ (all source : List ℕ) (read : source ≡ take READ_LIMIT all) (asked : PrecedenceOptions) where
  -- a script was explored
  pub orders_read : (c : RunContents) (old new : Option (List ℕ)) (r : Result Verdict ClaimsFault) → ReadsAsRun all (Ok c) → OrdersWritten c (lines_in source) asked old new r → OrdersExplored all asked old new r
  orders_read c old new r reads wrote = inl (c, reads, subst (λ (s : List ℕ). OrdersWritten c (lines_in s) asked old new r) read wrote)

  -- there is no script
  pub orders_unread : (error : ScriptError) (fault : PlayFault) (old : Option (List ℕ)) → RunAnswers (Err error) (ReadsAsRun all) → fault ≡ fault_of error
      → OrdersExplored all asked old old (Err (claims_faults.Explore (Play fault)))
  orders_unread error fault old told is = inr ((error, told, ap (λ (f : PlayFault). Err (claims_faults.Explore (Play f))) is), keeps_same old)
