use Rattle.std.proofs.Common.{[], ap}
use Rattle.gt_words.specs.Conditions.{SeatOf}
use Rattle.gt_words.proofs.AtPosition.{has_own_position, header_stored}
use Rattle.gt_words.proofs.Headers.{small_version, store_header_owes}
use Rattle.gt_words.proofs.words.Words.store_header.Goals as goal

pub pack-requires : goal.pack-requires
pack-requires c = small_version c.args.header.version c.requires.header.version

pub store_header-requires-clause-may : goal.store_header-requires-clause-may
store_header-requires-clause-may c =
    let a = c.args in let b = c.self.inside.words in let v = c.seat.inside.place.view in let own = c.seat.invariant.0 in
    let tn = has_own_position a.self.now b a.seat.now v c.seat.inside.position c.self.view_is c.self.invariant.1
    (ap (λ (s : SeatOf). s.view) c.seat.view_is) own c.requires.seat in
    λ slots id. store_header_owes b.layout slots id (v, []) c.seat.inside.position tn c.pack.result own
    (a.header, c.requires.header, c.pack.ensures.word)

pub returns-clause-step : goal.returns-clause-step
returns-clause-step c =
    let a = c.args in let r = c.store_header in
    header_stored a.self.now c.self.inside.words c.seat.inside.position c.pack.result a.header a.seat.now.view
    c.seat.inside.place.view r.new.seat.view c.self.view_is (ap (λ (s : SeatOf). s.view) c.seat.view_is) c.seat.invariant.0
    c.pack.ensures.word r.ensures.step
