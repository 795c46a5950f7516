-- From the table of a policy to what its text means.
use Rattle.std.proofs.Common.{◌≡◌, ℕ, ◌<◌, Bool, true, List, length, Ok, ap, subst, sym, ◌∙◌}
use Rattle.gt_types.specs.declared.perms.Perms.{Perms}
use Rattle.gt_flow.specs.Accesses.{AreAmong}
use Rattle.gt_policy.specs.Allowing.{Allowed, Meaning}
use Rattle.gt_policy.specs.Kept.{KeptPolicy, PolicyShows, may_of}
use Rattle.gt_policy.specs.Lined.{IsLined}
use Rattle.gt_policy.specs.Whole.{ReadsAs}
use Rattle.gt_policy.specs.declared.lined.LinedStatement.{LinedStatement}
use Rattle.gt_policy_questions.specs.Asking.{IsFlowOf, IsFlowReport}
use Rattle.gt_policy_questions.specs.declared.flows.asking.FlowQuestion.{FlowQuestion}
use Rattle.gt_policy_questions.specs.declared.flows.asking.FlowReport.{FlowReport}

module _ (looks : ℕ → ℕ → Perms → Bool) (policy : KeptPolicy) (same : looks ≡ may_of policy) (count : ℕ)
    (all : count ≡ length policy.types) where
  -- the table allows nothing past the types
  pub among : ((s t : ℕ) (perm : Perms) → may_of policy s t perm ≡ true
      → (s < length policy.types) × (t < length policy.types))
      → AreAmong count (λ s t perm. looks s.0 t.0 perm)
  among within s t perm h =
      subst (λ n. (s.0 < n) × (t.0 < n)) (sym all) (within s.0 t.0 perm (ap (λ f. f s.0 t.0 perm) (sym same) ∙ h))

  -- an answer by the table is one by the meaning
  pub flow-of : (text : List ℕ) (m : Meaning) (xs ys : List LinedStatement) (q : FlowQuestion) (report : FlowReport)
      → ReadsAs text (Ok m) → PolicyShows policy m → IsLined text ys → xs ≡ ys
      → IsFlowReport (λ s t perm. looks s.0 t.0 perm) count xs q report → IsFlowOf text q report
  flow-of text m xs ys q report reads shows lined e is = (
    m,
    ys,
    reads,
    lined,
    subst (λ (f : ℕ → ℕ → Perms → Bool). IsFlowReport (λ s t perm. f s.0 t.0 perm) (length m.types) ys q report)
        (same ∙ ap (λ (a : Allowed). a.may) shows)
        (subst (λ n. IsFlowReport (λ s t perm. looks s.0 t.0 perm) n ys q report)
        (all ∙ ap (λ (a : Allowed). length a.types) shows)
        (subst (λ zs. IsFlowReport (λ s t perm. looks s.0 t.0 perm) count zs q report) e is)),
  )
