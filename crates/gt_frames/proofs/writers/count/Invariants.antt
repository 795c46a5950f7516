use Rattle.std.proofs.Common.{◌≡◌, take}
use Rattle.gt_frames.specs.Writers.{count_used}
use Rattle.gt_frames.proofs.writers.count.Given as goal

abbrev pub invariant-places : goal.invariant-places
invariant-places l = l.count ≡ count_used (take l.at l.used)
