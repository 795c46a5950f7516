use Rattle.std.proofs.Common.{◌≡◌, drop}
use Rattle.std.specs.List.{list_any}
use Rattle.gt_types.specs.Names.{every_permission, permission_name}
use Rattle.gt_policy_statements.specs.Granting.{gives_some}
use Rattle.gt_policy_statements.proofs.granting.gives_any_permission.Given as goal

abbrev pub invariant-perms : goal.invariant-perms
invariant-perms l = list_any (λ p. gives_some (permission_name p) l.sources l.targets l.statement) every_permission ≡ list_any (λ p. gives_some (permission_name p) l.sources l.targets l.statement) (drop l.perm-index every_permission)
