use Rattle.std.proofs.Common.{refl}
use Rattle.gt_frames.specs.Writers.{numbers_of}
use Rattle.gt_frames.proofs.Stretches.{no_stretch}
use Rattle.gt_frames.proofs.writers.flush.Goals as goal

pub returns-clause-below : goal.returns-clause-below
returns-clause-below c = unfold numbers_of in c.fill.ensures

pub returns-clause-all : goal.returns-clause-all
returns-clause-all c = no_stretch c.fill.new.numbers.items _ refl refl
