use Rattle.std.proofs.Common.{◌≡◌, ℕ, take}
use Rattle.std.specs.List.{list_any}
use Rattle.gt_types.specs.declared.perms.Perms.{Perms}
use Rattle.gt_policy.specs.Allowing.{is_granted_by}
use Rattle.gt_policy.specs.Kept.{some_grants}
use Rattle.gt_policy.specs.Members.{has_attribute}
use Rattle.gt_policy.proofs.rules.Members.rules.Given as goal

abbrev pub invariant-loop-draft : goal.invariant-loop-draft
invariant-loop-draft l = (s t : ℕ) (perm : Perms) → some_grants l.rules.items s t perm ≡ list_any (λ draft. is_granted_by (has_attribute l.self) s t perm draft) (take l.draft-index l.drafts)
