use Rattle.std.proofs.Common.{◌≡◌, ℕ, ◌+◌, ◌<◌, List, arith, length, get_or, ap, ◌∙◌, sym, refl, subst}
use Rattle.atomic_table.specs.Seated.{TableId}
use Rattle.gt_words.specs.Answers.{IsNewSeat}
use Rattle.gt_words.specs.Conditions.{SeatOf}
use Rattle.gt_word_history.specs.Places.{IsNewPlace, SeatAt}
use Rattle.gt_word_history.specs.Rule.{Layout, layout_of}
use Rattle.gt_words.proofs.SeatsDealt.{dealer_stays, dealt_is_new}
use Rattle.gt_words.proofs.Lists.{one_behind, one_in_front}
use Rattle.gt_words.proofs.start.deal_seats.Goals as goal

pub loop-at-init : goal.loop-at-init
loop-at-init c = let none = c.in_ok-seats.ensures.items in record {
  first = c.requires.first.0;
  dealt = c.requires.first.1;
  many = ap (λ (xs : List SeatOf). length xs + 1) none;
  each = λ i inside. absurd (let e : length c.in_ok-seats.seats.items ≡ 0 = ap length none in omega arith);
}

pub deal-place-requires-clause-room : goal.deal-place-requires-clause-room
deal-place-requires-clause-room c = let i = c.loop-at.invariant in let test = c.loop-at-test.true in let len = c.len-count.ensures in
    let same = ap (λ (k : Layout). k.domains) c.requires.config.1 in let dealt = i.dealt in omega arith

pub new_seat-requires-clause-place : goal.new_seat-requires-clause-place
new_seat-requires-clause-place c = let i = c.loop-at.invariant in
    subst (λ (z : TableId). IsNewPlace z (layout_of c.args.config.now) c.loop-at.at c.deal-place.result) (ap (λ (s : SeatAt). s.table) c.deal-place.ensures.dealt ∙ i.first.table)
    (dealt_is_new _ (layout_of c.args.config.now) 0 c.loop-at.at c.loop-at.first c.deal-place.result i.first i.dealt c.deal-place.ensures.dealt)

pub loop-at-preserved : goal.loop-at-preserved
loop-at-preserved c = let i = c.loop-at.invariant in let e = c.deal-place.ensures in let b = c.args.words.now in let k = layout_of c.args.config.now in let seats = c.loop-at.seats.items in let seat = c.new_seat.result in
    let items = c.in_ok-push.ensures.items in let len = c.in_ok-push.ensures.len in
    let last = subst (λ (n : ℕ). IsNewSeat b n seat) (sym i.many) c.new_seat.ensures in
    record {
      first = dealer_stays b.table k 0 c.loop-at.first c.deal-place.new.first i.first e.dealer;
      dealt = ap (λ (s : SeatAt). s.view.dealt) e.dealer ∙ ap (λ (n : ℕ). n + 1) i.dealt;
      many = let m = i.many in omega (arith, len);
      each = subst (λ (xs : List SeatOf). (j : ℕ) → j < length xs → (d : SeatOf) → IsNewSeat b (j + 1) (get_or xs j d)) (sym items) (λ j inside d. one_behind (λ n. IsNewSeat b (n + 1)) seat seats d (λ n l. i.each n l d) last j inside);
    }

pub new_seat-requires-2-clause-place : goal.new_seat-requires-2-clause-place
new_seat-requires-2-clause-place c = c.loop-at.invariant.first

pub returns-clause-seats : goal.returns-clause-seats
returns-clause-seats c = let b = c.args.words.now in let inv = c.loop-at.invariant in
    let ended = c.loop-at-test.false in let len = c.len-count.ensures in let many = inv.many in let placed = c.in_ok-insert.ensures.by_index in
    one_in_front (IsNewSeat b) c.new_seat-2.result c.loop-at.seats.items c.insert.new.self.items (length c.args.config.now.domains.items) c.new_seat-2.ensures inv.each (omega arith) (λ d. placed.0 d refl) (λ j d more. placed.2 j d refl more)
