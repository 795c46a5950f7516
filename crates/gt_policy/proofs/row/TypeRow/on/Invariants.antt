use Rattle.std.proofs.Common.{◌≡◌, ◌&&◌, ◌==◌, true, take}
use Rattle.std.specs.List.{list_any}
use Rattle.gt_types.specs.declared.perms.Perms.{Perms}
use Rattle.gt_types.specs.Names.{is_permission, every_permission}
use Rattle.gt_policy.specs.Allowing.{lists_perm}
use Rattle.gt_policy.specs.Rows.{lanes_reach}
use Rattle.gt_policy.proofs.row.TypeRow.on.Given as goal

abbrev pub invariant-loop-perm : goal.invariant-loop-perm
invariant-loop-perm l = (q : Perms) → is_permission q ≡ true → lists_perm l.perms q ≡ (list_any (λ p. p.0 == q.0) (take l.perm-index every_permission) && lanes_reach l.self l.target.0 q)
