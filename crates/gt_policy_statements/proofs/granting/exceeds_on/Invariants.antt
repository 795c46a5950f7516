use Rattle.std.proofs.Common.{◌≡◌, drop}
use Rattle.std.specs.List.{list_any}
use Rattle.std.specs.Prelude.{◌&&◌, not}
use Rattle.gt_policy_statements.specs.Granting.{gives_one, reaches_by}
use Rattle.gt_policy_statements.proofs.granting.exceeds_on.Given as goal

abbrev pub invariant-targets : goal.invariant-targets
invariant-targets l = list_any (λ t. reaches_by l.source t l.allowed && not (gives_one l.perm l.source t l.other)) l.targets ≡ list_any (λ t. reaches_by l.source t l.allowed && not (gives_one l.perm l.source t l.other)) (drop l.target-index l.targets)
