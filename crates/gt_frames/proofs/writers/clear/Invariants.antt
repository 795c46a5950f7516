use Rattle.std.proofs.Common.{◌≡◌, take}
use Rattle.gt_frames.specs.Writers.{count_used}
use Rattle.gt_frames.proofs.writers.clear.Given as goal

abbrev pub invariant-places : goal.invariant-places
invariant-places l = count_used (take l.at l.used) ≡ 0
