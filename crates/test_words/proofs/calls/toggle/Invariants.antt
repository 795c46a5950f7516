use Rattle.gt_words.specs.Conditions.{IsSeatOf}
use Rattle.test_words.specs.Rows.{IsOnlyEntry}
use Rattle.test_words.proofs.calls.toggle.Given as goal

abbrev pub invariant-loop : goal.invariant-loop
invariant-loop l = record {
  seat : IsSeatOf l.words l.seat;
  row : IsOnlyEntry l.row.generation l.row.entry l.seat.view;
}
