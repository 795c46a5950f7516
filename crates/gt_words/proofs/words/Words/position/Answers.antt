use Rattle.std.proofs.Common.{◌≡◌, ◌∙◌, ℕ, List, ap}
use Rattle.gt_types.specs.declared.DomId.{DomId}
use Rattle.gt_word_history.specs.Rule.{position_in}
use Rattle.gt_words.specs.Conditions.{SeatOf}
use Rattle.gt_words.proofs.words.Words.position.Goals as goal

pub returns-then-seat-dom-2-clause-position : goal.returns-then-seat-dom-2-clause-position
returns-then-seat-dom-2-clause-position c =
    let seat = c.seat.inside in let ids = c.args.self.now.layout.ids in
    let named : seat.before.dom ≡ c.args.dom = ap {B = DomId} (λ (n : ℕ). record { 0 = n }) c.if-seat-dom-2.true in
    c.seat.invariant.4
    ∙ ap (λ (xs : List DomId). position_in xs seat.before.dom) (ap (λ (s : SeatOf). s.view.ids) c.seat.view_is ∙ c.requires.ids)
    ∙ ap (λ (d : DomId). position_in ids d) named
