use Rattle.std.proofs.Common.{◌≡◌, drop}
use Rattle.std.specs.List.{list_any}
use Rattle.std.specs.Prelude.{◌&&◌}
use Rattle.gt_policy_statements.specs.Granting.{reaches_by}
use Rattle.gt_neverallow.specs.Breaking.{forbids_target}
use Rattle.gt_neverallow.proofs.example.target_on.Given as goal

abbrev pub invariant-targets : goal.invariant-targets
invariant-targets l = list_any (λ t. reaches_by l.source t l.allowed && forbids_target l.source t l.never) l.targets ≡ list_any (λ t. reaches_by l.source t l.allowed && forbids_target l.source t l.never) (drop l.target-index l.targets)
