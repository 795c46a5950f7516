use Rattle.std.proofs.Common.{◌≡◌}
use Rattle.gt_word_history.specs.Views.{last_of}
use Rattle.gt_words.specs.Conditions.{IsSeatOf}
use Rattle.bench.proofs.words.owner.withdraw_and_grant.Given as goal

abbrev pub invariant-loop : goal.invariant-loop
invariant-loop l = record {
  seat : IsSeatOf l.words l.seat;
  own : l.owner ≡ l.seat.dom;
  row : last_of l.gref.0 l.seat.view ≡ record { generation = l.row.generation; entry = l.row.entry };
}
