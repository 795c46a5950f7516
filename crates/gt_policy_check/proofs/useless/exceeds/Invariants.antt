use Rattle.std.proofs.Common.{◌≡◌, drop}
use Rattle.std.specs.List.{list_any}
use Rattle.gt_types.specs.Names.{every_permission, permission_name}
use Rattle.gt_policy_statements.specs.Granting.{exceeds_some}
use Rattle.gt_policy_check.proofs.useless.exceeds.Given as goal

abbrev pub invariant-perms : goal.invariant-perms
invariant-perms l = list_any (λ p. exceeds_some (permission_name p) l.members l.statement l.other) every_permission ≡ list_any (λ p. exceeds_some (permission_name p) l.members l.statement l.other) (drop l.perm-index every_permission)
