use Rattle.std.proofs.Common.{◌≡◌, map, take}
use Rattle.gt_start.specs.Beginning.{domain_set}
use Rattle.gt_start.proofs.settings.configured.Given as goal

abbrev pub invariant-loop-one : goal.invariant-loop-one
invariant-loop-one l = l.domains.items ≡ map domain_set (take l.one-index l.settings)
