use Rattle.gt_words.specs.Conditions.{IsSeatOf}
use Rattle.test_words.proofs.calls.churn.Given as goal

abbrev pub invariant-loop : goal.invariant-loop
invariant-loop l = IsSeatOf l.words l.seat
