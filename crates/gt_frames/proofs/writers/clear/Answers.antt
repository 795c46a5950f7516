use Rattle.std.proofs.Common.{arith}
use Rattle.gt_frames.proofs.Stretches.{cleared_more}
use Rattle.gt_frames.proofs.writers.clear.Goals as goal

pub places-preserved : goal.places-preserved
places-preserved c = cleared_more c.places.used c.places.at (omega (arith, c.places.auto.used, c.places-test.true)) c.places.invariant
