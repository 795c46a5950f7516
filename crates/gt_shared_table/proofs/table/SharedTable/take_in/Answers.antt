use Rattle.std.proofs.Common.{sym, ap, ◌∙◌, refl, arith}
use Rattle.gt_word_history.specs.Joining.{GatheredOf}
use Rattle.gt_word_history.specs.Places.{Board, SeatAt}
use Rattle.gt_shared_table.specs.Rule.{places_of}
use Rattle.gt_shared_table.specs.Seats.{gone_holder}
use Rattle.gt_shared_table.proofs.SeatsKept.{taken_in}
use Rattle.gt_shared_table.proofs.table.SharedTable.take_in.Goals as goal

pub join_seat-requires : goal.join_seat-requires
join_seat-requires c = let room = c.self.invariant.0.3 in let limits = c.self.invariant.2 in let some = limits.some in let all = c.all.invariant in let alone = c.other.invariant in
    let table = sym (ap (λ (b : Board). b.table) c.self.view_is) in (
      ap (λ (g : GatheredOf). g.table) c.all.view_is ∙ (c.requires.0 ∙ table),
      ap (λ (s : SeatAt). s.table) c.other.view_is ∙ (c.requires.1 ∙ table),
      alone.0,
      omega arith,
      taken_in (places_of c.self.inside.table.shared.key) _ _ _ _ gone_holder all.2 all.1 alone.3 alone.1 refl refl,
    )
