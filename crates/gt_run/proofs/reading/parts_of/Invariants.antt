use Rattle.std.proofs.Common.{take}
use Rattle.gt_run.specs.Runs.{AreParts}
use Rattle.gt_run.proofs.reading.parts_of.Given as goal

abbrev pub invariant-domains : goal.invariant-domains
invariant-domains l = AreParts (take l.domain-index l.domains) l.tasks l.types l.parts.items
