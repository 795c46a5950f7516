use Rattle.std.proofs.Common.{arith, length}
use Rattle.gt_frames.proofs.Shown.{all-set, one-more-set}
use Rattle.gt_frames.proofs.writers.set_all.Goals as goal

pub numbers-preserved : goal.numbers-preserved
numbers-preserved c = one-more-set c.numbers.numbers c.args.number c.numbers.at (omega (arith, c.numbers.auto.numbers, c.numbers-test.true)) c.numbers.invariant

pub returns : goal.returns
returns c = all-set c.numbers.numbers c.args.number (length c.args.numbers.now) c.numbers.at c.numbers.auto.numbers c.numbers-test.false c.numbers.invariant
