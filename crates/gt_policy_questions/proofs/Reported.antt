-- The answer to a question whose names are those of types.
use Rattle.std.proofs.Common.{◌≡◌, List, [], ◌++◌, Option, None, Result, Ok, Err, IfOk, ap, map, option_map, subst, sym, ◌∙◌, ℕ}
use Rattle.std.specs.Borrow.{Bor}
use Rattle.gt_types.specs.declared.TypeId.{TypeId}
use Rattle.gt_flow.specs.Flow.{FlowPolicy}
use Rattle.gt_flow.specs.Accesses.{is_among}
use Rattle.gt_policy.specs.declared.lined.LinedStatement.{LinedStatement}
use Rattle.gt_policy_statements.specs.Members.{members_of}
use Rattle.gt_policy_statements.specs.declared.members.Member.{Member}
use Rattle.gt_policy_questions.specs.Asking.{IsFlowReport, ReportsTypes, Trusts, names_in, trusted_by, unknown_place}
use Rattle.gt_policy_questions.specs.declared.flows.asking.FlowQuestion.{FlowQuestion}
use Rattle.gt_policy_questions.specs.declared.flows.asking.FlowReport.{FlowReport}

-- the names of borrowed texts
abbrev pub said : List (Bor (List ℕ)) → List (List ℕ)
said names = map (λ n. n.now) names

known-names : {E : Type 0} (may : FlowPolicy) (count : ℕ) (xs : List LinedStatement) (q : FlowQuestion)
    (ms : List Member) (trusted : List TypeId) (r : Result FlowReport E) → ms ≡ members_of xs None
    → None ≡ unknown_place ms count (names_in (option_map (λ t. t.now) q.trusted))
    → trusted ≡ trusted_by ms count (names_in (option_map (λ t. t.now) q.trusted))
    → IfOk r (λ report. ReportsTypes None q.format may (is_among trusted) count xs ms q report)
    → IfOk r (λ report. IsFlowReport may count xs q report)
known-names may count xs q ms trusted (Err e) same known trusts is = tt
known-names may count xs q ms trusted (Ok report) same known trusts is =
    let names = names_in (option_map (λ t. t.now) q.trusted) in
    subst (λ (l : List Member). ReportsTypes (unknown_place l count names) q.format may (is_among (trusted_by l count names))
    count xs l q report) same
    (subst (λ (o : Option ℕ). ReportsTypes o q.format may (is_among (trusted_by ms count names)) count xs ms q report) known
    (subst (λ (l : List TypeId). ReportsTypes None q.format may (is_among l) count xs ms q report) trusts is))

-- the trusted types are those of the names
pub all-trusted : {E : Type 0} (may : FlowPolicy) (count : ℕ) (xs : List LinedStatement) (q : FlowQuestion)
    (ms types : List Member) (read names : List (Bor (List ℕ))) (old new trusted : List TypeId) (found : Option ℕ)
    (r : Result FlowReport E) → ms ≡ types → types ≡ members_of xs None
    → said read ≡ names_in (option_map (λ t. t.now) q.trusted) → names ≡ read → old ≡ []
    → Trusts ms count (said names) found old new → found ≡ None → trusted ≡ new
    → IfOk r (λ report. ReportsTypes None q.format may (is_among trusted) count xs ms q report)
    → IfOk r (λ report. IsFlowReport may count xs q report)
all-trusted may count xs q ms types read names old new trusted found r same all said-is name-is empty trusts known is report =
    let asked : said names ≡ names_in (option_map (λ t. t.now) q.trusted) = ap said name-is ∙ said-is in
    let by : List (List ℕ) → List TypeId = λ n. trusted_by ms count n in
    known-names may count xs q ms trusted r (same ∙ all)
    (sym known ∙ trusts.place ∙ ap (λ (n : List (List ℕ)). unknown_place ms count n) asked)
    (is ∙ trusts.ids known ∙ ap (λ (l : List TypeId). l ++ by (said names)) empty ∙ ap by asked) report
