use Rattle.std.proofs.Common.{◌≡◌, take}
use Rattle.gt_audit.proofs.trail.Trail.records.Given as goal

abbrev pub invariant-records : goal.invariant-records
invariant-records l = l.records.items ≡ take l.index l.self.records
