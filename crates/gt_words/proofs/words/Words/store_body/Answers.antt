use Rattle.std.proofs.Common.{◌≡◌, [], ap, subst, sym}
use Rattle.gt_model.specs.declared.entry.Entry.TheVariants.{Invalid}
use Rattle.gt_word_history.specs.Views.{last_of}
use Rattle.gt_word_history.specs.declared.view.View.{View}
use Rattle.gt_words.specs.Conditions.{SeatOf}
use Rattle.gt_words.proofs.AtPosition.{body_stored, has_own_position}
use Rattle.gt_words.proofs.StepDuties.{store_owes}
use Rattle.gt_words.proofs.words.Words.store_body.Goals as goal

pub store_body-requires-clause-may : goal.store_body-requires-clause-may
store_body-requires-clause-may c =
    let a = c.args in let b = c.self.inside.words in let v : View = c.seat.inside.place.view in let own = c.seat.invariant.0 in
    let view = ap (λ (s : SeatOf). s.view) c.seat.view_is in
    let tn = has_own_position a.self.now b a.seat.now v c.seat.inside.position c.self.view_is c.self.invariant.1 view own c.requires.seat in
    let invalid = subst (λ (u : View). (last_of a.gref.0 u).entry ≡ Invalid) (sym view) c.requires.invalid in
    λ slots id. store_owes b.layout slots id (v, []) c.seat.inside.position a.gref.0 tn c.requires.entry own a.body_word a.value invalid

pub returns-clause-step : goal.returns-clause-step
returns-clause-step c =
    let a = c.args in let r = c.store_body in
    body_stored a.self.now c.self.inside.words c.seat.inside.position a.gref.0 a.body_word a.value a.seat.now.view
    c.seat.inside.place.view r.new.seat.view c.self.view_is (ap (λ (s : SeatOf). s.view) c.seat.view_is) c.seat.invariant.0
    r.ensures.step
