use Rattle.std.proofs.Common.{[], ap, ◌∙◌, sym}
use Rattle.gt_words.proofs.AtPosition.{control_looked, has_position, own_looked}
use Rattle.gt_words.proofs.StepDuties.{look_owes}
use Rattle.gt_words.proofs.words.Words.load_control_at.Goals as goal
use Rattle.gt_word_history.specs.Rule.{Layout}
use Rattle.gt_words.specs.Laws.{own_position}
use Rattle.gt_words.specs.Conditions.{Board, SeatOf}

pub load_control-requires-clause-may : goal.load_control-requires-clause-may
load_control-requires-clause-may c =
    let a = c.args in let b = c.self.inside.words in let entry = c.requires.entry in
    let tn = has_position a.self.now b a.dom a.at c.self.view_is c.self.invariant.1 c.requires.place entry.0 in
    λ slots id. look_owes b.layout slots id (c.seat.inside.place.view, []) a.at a.gref.0 tn entry.1

pub returns-clause-look : goal.returns-clause-look
returns-clause-look c =
    let a = c.args in let b = c.self.inside.words in let r = c.load_control in let entry = c.requires.entry in
    let tn = has_position a.self.now b a.dom a.at c.self.view_is c.self.invariant.1 c.requires.place entry.0 in
    control_looked a.self.now b a.dom a.at r.result a.seat.now.view c.seat.inside.place.view r.new.seat.view c.self.view_is
    c.requires.place (ap (λ (s : SeatOf). s.view) c.seat.view_is) tn a.gref.0 entry.1 r.ensures.step

pub returns-clause-own : goal.returns-clause-own
returns-clause-own c = λ same. let run = c.self.invariant.1 in let k = c.args.self.now.layout in let seat = c.args.seat.now in
    let here = own_position run.0 k k.ids seat.view.position c.args.dom (sym run.2 ∙ ap (λ (b : Board). b.layout) c.self.view_is) run.1.distinct
    (sym (ap (λ (b : Board). b.layout.ids) c.self.view_is) ∙ ap (λ (l : Layout). l.ids) run.2) c.requires.seat.inside (c.requires.seat.named ∙ sym same) in
    let a = c.args in let b = c.self.inside.words in let r = c.load_control in let entry = c.requires.entry in
    let tn = has_position a.self.now b a.dom a.at c.self.view_is c.self.invariant.1 c.requires.place entry.0 in
    own_looked a.self.now b a.dom a.at r.result a.seat.now.view c.seat.inside.place.view r.new.seat.view c.self.view_is
    c.requires.place (ap (λ (s : SeatOf). s.view) c.seat.view_is) tn a.gref.0 entry.1 r.ensures.step
    (ap (λ (s : SeatOf). s.view.position) c.seat.view_is ∙ (here ∙ sym c.requires.place))
