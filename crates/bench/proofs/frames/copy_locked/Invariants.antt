use Rattle.gt_words.specs.Conditions.{IsSeatOf}
use Rattle.bench.proofs.frames.copy_locked.Given as goal

abbrev pub invariant-copies : goal.invariant-copies
invariant-copies g l = IsSeatOf l.words l.seat
