use Rattle.std.proofs.Common.{◌≡◌, drop}
use Rattle.std.specs.List.{list_any}
use Rattle.gt_types.specs.Names.{every_permission, permission_name}
use Rattle.gt_neverallow.specs.Breaking.{breaks_some}
use Rattle.gt_neverallow.proofs.example.breach_example.Given as goal

abbrev pub invariant-perms : goal.invariant-perms
invariant-perms l = list_any (λ p. breaks_some (permission_name p) l.members l.never l.statement) every_permission ≡ list_any (λ p. breaks_some (permission_name p) l.members l.never l.statement) (drop l.perm-index every_permission)
