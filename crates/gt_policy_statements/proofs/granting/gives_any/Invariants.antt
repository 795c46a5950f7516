use Rattle.std.proofs.Common.{◌≡◌, drop}
use Rattle.std.specs.List.{list_any}
use Rattle.gt_policy_statements.specs.Granting.{gives_by}
use Rattle.gt_policy_statements.proofs.granting.gives_any.Given as goal

abbrev pub invariant-sources : goal.invariant-sources
invariant-sources l = list_any (λ s. gives_by l.perm l.targets s l.allowed) l.sources ≡ list_any (λ s. gives_by l.perm l.targets s l.allowed) (drop l.source-index l.sources)
