use Rattle.std.proofs.Common.{◌≡◌, drop}
use Rattle.std.specs.List.{list_any}
use Rattle.gt_policy_statements.specs.Granting.{is_near_miss}
use Rattle.gt_policy_statements.proofs.granting.near_any.Given as goal

abbrev pub invariant-sources : goal.invariant-sources
invariant-sources l = list_any (λ s. is_near_miss l.perm l.targets s l.allowed) l.sources ≡ list_any (λ s. is_near_miss l.perm l.targets s l.allowed) (drop l.source-index l.sources)
