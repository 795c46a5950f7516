use Rattle.std.proofs.Common.{◌≡◌, drop}
use Rattle.std.specs.List.{list_any}
use Rattle.gt_policy_statements.specs.Granting.{reaches_by}
use Rattle.gt_policy_statements.proofs.granting.reaches_some.Given as goal

abbrev pub invariant-targets : goal.invariant-targets
invariant-targets l = list_any (λ t. reaches_by l.source t l.allowed) l.targets ≡ list_any (λ t. reaches_by l.source t l.allowed) (drop l.target-index l.targets)
