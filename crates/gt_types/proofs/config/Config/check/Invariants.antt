use Rattle.std.proofs.Common.{take}
use Rattle.gt_types.specs.Config.{AreFaultless}
use Rattle.gt_types.proofs.config.Config.check.Given as goal

-- the domains so far have no fault
abbrev pub invariant-loop-at : goal.invariant-loop-at
invariant-loop-at l = AreFaultless (take l.at l.self.domains.items)
