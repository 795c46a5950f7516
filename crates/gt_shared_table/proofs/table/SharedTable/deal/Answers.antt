use Rattle.std.proofs.Common.{ℕ, ◌<◌, sym, subst, ap, ◌∙◌, arith}
use Rattle.gt_word_history.specs.Places.{Board, SeatAt}
use Rattle.gt_shared_table.specs.Rule.{places_of}
use Rattle.gt_shared_table.proofs.SeatsKept.{dealt}
use Rattle.gt_shared_table.proofs.table.SharedTable.deal.Goals as goal

pub split_seat-requires : goal.split_seat-requires
split_seat-requires c = let room = c.self.invariant.0.3 in let limits = c.self.invariant.2 in let some = limits.some in let alone = c.first.invariant in (
  ap (λ (s : SeatAt). s.table) c.first.view_is ∙ (c.requires.table ∙ sym (ap (λ (b : Board). b.table) c.self.view_is)),
  omega arith,
  dealt (places_of c.self.inside.table.shared.key) _ _ alone.3 alone.2 (ap (λ (s : SeatAt). s.view.position) c.first.view_is ∙ c.requires.first)
      (subst (λ (q : ℕ × ℕ). q.0 < q.1) (λ i. ((sym c.first.view_is i).view.dealt, (sym c.self.view_is i).layout.domains)) c.requires.room),
)
