use Rattle.gt_words.specs.Conditions.{IsSeatOf}
use Rattle.bench.proofs.frames.lock_all.Given as goal

abbrev pub invariant-reads : goal.invariant-reads
invariant-reads g l = IsSeatOf l.words l.seat
