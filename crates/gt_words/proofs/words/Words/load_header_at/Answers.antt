use Rattle.std.proofs.Common.{[], ap}
use Rattle.gt_words.specs.Conditions.{SeatOf}
use Rattle.gt_words.proofs.AtPosition.{has_position, header_looked}
use Rattle.gt_words.proofs.Headers.{look_header_owes}
use Rattle.gt_words.proofs.words.Words.load_header_at.Goals as goal

pub load_header-requires-clause-may : goal.load_header-requires-clause-may
load_header-requires-clause-may c =
    let a = c.args in let b = c.self.inside.words in
    let tn = has_position a.self.now b a.dom a.at c.self.view_is c.self.invariant.1 c.requires.place c.requires.domain in
    λ slots id. look_header_owes b.layout slots id (c.seat.inside.place.view, []) a.at tn

pub returns-clause-look : goal.returns-clause-look
returns-clause-look c =
    let a = c.args in let b = c.self.inside.words in let r = c.load_header in
    let tn = has_position a.self.now b a.dom a.at c.self.view_is c.self.invariant.1 c.requires.place c.requires.domain in
    header_looked a.self.now b a.dom a.at r.result a.seat.now.view c.seat.inside.place.view r.new.seat.view c.self.view_is
    c.requires.place (ap (λ (s : SeatOf). s.view) c.seat.view_is) tn r.ensures.step
