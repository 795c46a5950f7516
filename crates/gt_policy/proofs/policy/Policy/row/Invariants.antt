use Rattle.std.proofs.Common.{◌≡◌, ◌&&◌, ℕ, take}
use Rattle.gt_types.specs.declared.perms.Perms.{Perms}
use Rattle.gt_types.specs.Names.{is_permission}
use Rattle.gt_policy.specs.Kept.{some_grants}
use Rattle.gt_policy.specs.Rows.{lanes_reach}
use Rattle.gt_policy.proofs.policy.Policy.row.Given as goal

abbrev pub invariant-loop-rule : goal.invariant-loop-rule
invariant-loop-rule l = (t : ℕ) (perm : Perms) → lanes_reach l.row t perm ≡ (is_permission perm && some_grants (take l.rule-index l.rule-items) l.source.0 t perm)
