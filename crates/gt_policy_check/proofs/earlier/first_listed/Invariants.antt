use Rattle.std.proofs.Common.{◌≡◌, drop}
use Rattle.std.specs.List.{list_any}
use Rattle.gt_types.specs.Names.{every_permission, permission_name}
use Rattle.gt_policy.specs.Granting.{lists_word}
use Rattle.gt_policy_check.proofs.earlier.first_listed.Given as goal

abbrev pub invariant-perms : goal.invariant-perms
invariant-perms l = list_any (λ p. lists_word l.perms (permission_name p)) every_permission ≡ list_any (λ p. lists_word l.perms (permission_name p)) (drop l.perm-index every_permission)
