use Rattle.std.proofs.Common.{◌≡◌, ℕ, ◌<◌, ◌+◌, length, HoldsAt}
use Rattle.gt_words.specs.Answers.{IsNewSeat}
use Rattle.gt_word_history.specs.Places.{IsNewPlace}
use Rattle.gt_word_history.specs.Rule.{layout_of}
use Rattle.gt_words.proofs.start.deal_seats.Given as goal

abbrev pub invariant-loop-at : goal.invariant-loop-at
invariant-loop-at l = record {
  first : IsNewPlace l.fn.words.table (layout_of l.fn.config) 0 l.first;
  dealt : l.first.view.dealt ≡ l.at;
  many : length l.seats.items + 1 ≡ l.at;
  each : (i : ℕ) → i < length l.seats.items → HoldsAt (IsNewSeat l.fn.words (i + 1)) l.seats.items i;
}
