use Rattle.gt_words.specs.Conditions.{IsSeatOf}
use Rattle.test_words.proofs.table.first_wrong.Given as goal

abbrev pub invariant-copies : goal.invariant-copies
invariant-copies g l = IsSeatOf l.words l.seat
