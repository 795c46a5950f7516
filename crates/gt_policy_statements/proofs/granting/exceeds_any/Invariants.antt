use Rattle.std.proofs.Common.{◌≡◌, drop}
use Rattle.std.specs.List.{list_any}
use Rattle.std.specs.Prelude.{◌&&◌}
use Rattle.gt_policy_statements.specs.Granting.{exceeds_on, gives_source}
use Rattle.gt_policy_statements.proofs.granting.exceeds_any.Given as goal

abbrev pub invariant-members : goal.invariant-members
invariant-members l = list_any (λ s. gives_source l.perm s l.allowed && exceeds_on l.perm l.members l.allowed l.other s) l.members ≡ list_any (λ s. gives_source l.perm s l.allowed && exceeds_on l.perm l.members l.allowed l.other s) (drop l.source-index l.members)
