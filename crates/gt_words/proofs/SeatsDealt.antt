-- The seat that deals, and the one that it deals.
use Rattle.std.proofs.Common.{◌≡◌, ℕ, [], ap, ◌∙◌, refl}
use Rattle.atomic_table.specs.Seated.{TableId}
use Rattle.gt_word_history.specs.Places.{IsNewPlace, SeatAt, dealer_after, dealt_to}
use Rattle.gt_word_history.specs.Rule.{Layout}

-- the seat that deals stays as new as it was
pub dealer_stays : (z : TableId) (k : Layout) (i : ℕ) (s t : SeatAt) → IsNewPlace z k i s → t ≡ record s { view = dealer_after s.view } → IsNewPlace z k i t
dealer_stays z k i s t new is = record {
  table = ap (λ (u : SeatAt). u.table) is ∙ new.table;
  position = ap (λ (u : SeatAt). u.view.position) is ∙ new.position;
  first = ap (λ (u : SeatAt). u.view.first) is ∙ new.first;
  headers = ap (λ (u : SeatAt). u.view.headers) is ∙ new.headers;
  ids = ap (λ (u : SeatAt). u.view.ids) is ∙ new.ids;
  steps = ap (λ (u : SeatAt). u.view.steps) is ∙ new.steps;
}

-- the seat dealt is new, at the position that the other has counted to
pub dealt_is_new : (z : TableId) (k : Layout) (i at : ℕ) (s t : SeatAt) → IsNewPlace z k i s → s.view.dealt ≡ at → t ≡ record s { view = dealt_to s.view; locks = [] } → IsNewPlace t.table k at t
dealt_is_new z k i at s t new counted is = record {
  table = refl;
  position = ap (λ (u : SeatAt). u.view.position) is ∙ counted;
  first = ap (λ (u : SeatAt). u.view.first) is ∙ new.first;
  headers = ap (λ (u : SeatAt). u.view.headers) is ∙ new.headers;
  ids = ap (λ (u : SeatAt). u.view.ids) is ∙ new.ids;
  steps = ap (λ (u : SeatAt). u.view.steps) is;
}
