use Rattle.std.proofs.Common.{◌≡◌, ℕ, ap, ◌∙◌, sym}
use Rattle.gt_types.specs.declared.DomId.{DomId}
use Rattle.gt_word_history.specs.Rule.{Layout}
use Rattle.gt_words.specs.Conditions.{Board, SeatOf}
use Rattle.gt_words.specs.Laws.{own_position}
use Rattle.gt_words.proofs.words.Words.owner_position.Goals as goal

pub returns-then-owner-seat-clause-position : goal.returns-then-owner-seat-clause-position
returns-then-owner-seat-clause-position c =
    let run = c.self.invariant.1 in let k = c.args.self.now.layout in let seat = c.args.seat.now in
    let owner : c.args.owner ≡ c.seat.inside.dom = ap {B = DomId} (λ (n : ℕ). record { 0 = n }) c.if-owner-seat.true in
    let named : seat.dom ≡ c.args.owner = sym (owner ∙ ap (λ (s : SeatOf). s.dom) c.seat.view_is) in
    let here = own_position run.0 k k.ids seat.view.position c.args.owner (sym run.2 ∙ ap (λ (b : Board). b.layout) c.self.view_is) run.1.distinct
    (sym (ap (λ (b : Board). b.layout.ids) c.self.view_is) ∙ ap (λ (l : Layout). l.ids) run.2) c.requires.inside (c.requires.named ∙ named) in
    sym c.seat.invariant.0 ∙ (ap (λ (s : SeatOf). s.view.position) c.seat.view_is ∙ here)
