-- From the table of a policy to what its text means.
use Rattle.std.proofs.Common.{◌≡◌, ℕ, Bool, List, length, Ok, ap, subst, ◌∙◌}
use Rattle.gt_types.specs.declared.perms.Perms.{Perms}
use Rattle.gt_policy.specs.Allowing.{Allowed, Meaning}
use Rattle.gt_policy.specs.Kept.{KeptPolicy, PolicyShows, may_of}
use Rattle.gt_policy.specs.Lined.{IsLined}
use Rattle.gt_policy.specs.Whole.{ReadsAs}
use Rattle.gt_policy.specs.declared.lined.LinedStatement.{LinedStatement}
use Rattle.gt_policy_questions.specs.Pairs.{AnswersPairs, ArePairsOf}
use Rattle.gt_policy_questions.specs.declared.asking.PairsQuestion.{PairsQuestion}
use Rattle.gt_policy_questions.specs.declared.asking.PairsReport.{PairsReport}

-- an answer by the table is one by the meaning
pub pairs-of : (looks : ℕ → ℕ → Perms → Bool) (policy : KeptPolicy) → looks ≡ may_of policy → (count : ℕ)
    → count ≡ length policy.types → (text : List ℕ) (m : Meaning) (xs ys : List LinedStatement) (q : PairsQuestion)
    (report : PairsReport) → ReadsAs text (Ok m) → PolicyShows policy m → IsLined text ys → xs ≡ ys
    → AnswersPairs (λ s t perm. looks s.0 t.0 perm) count xs q report → ArePairsOf text q report
pairs-of looks policy same count all text m xs ys q report reads shows lined e is = (
  m,
  ys,
  reads,
  lined,
  subst (λ (f : ℕ → ℕ → Perms → Bool). AnswersPairs (λ s t perm. f s.0 t.0 perm) (length m.types) ys q report)
      (same ∙ ap (λ (a : Allowed). a.may) shows)
      (subst (λ n. AnswersPairs (λ s t perm. looks s.0 t.0 perm) n ys q report)
      (all ∙ ap (λ (a : Allowed). length a.types) shows)
      (subst (λ zs. AnswersPairs (λ s t perm. looks s.0 t.0 perm) count zs q report) e is)),
)
