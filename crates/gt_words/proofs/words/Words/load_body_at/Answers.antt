use Rattle.std.proofs.Common.{[], ap}
use Rattle.gt_words.specs.Conditions.{SeatOf}
use Rattle.gt_words.proofs.AtPosition.{body_looked, has_position}
use Rattle.gt_words.proofs.StepDuties.{read_owes}
use Rattle.gt_words.proofs.words.Words.load_body_at.Goals as goal

pub load_body-requires-clause-may : goal.load_body-requires-clause-may
load_body-requires-clause-may c =
    let a = c.args in let b = c.self.inside.words in let entry = c.requires.entry in
    let tn = has_position a.self.now b a.dom a.at c.self.view_is c.self.invariant.1 c.requires.place entry.0 in
    λ slots id. read_owes b.layout slots id (c.seat.inside.place.view, []) a.at a.gref.0 tn entry.1 a.body_word

pub returns-clause-look : goal.returns-clause-look
returns-clause-look c =
    let a = c.args in let b = c.self.inside.words in let r = c.load_body in
    let tn = has_position a.self.now b a.dom a.at c.self.view_is c.self.invariant.1 c.requires.place c.requires.entry.0 in
    body_looked a.self.now b a.dom a.at r.result a.seat.now.view c.seat.inside.place.view r.new.seat.view c.self.view_is
    c.requires.place (ap (λ (s : SeatOf). s.view) c.seat.view_is) tn a.gref.0 a.body_word r.ensures.step
