use Rattle.std.proofs.Common.{◌∙◌, ap, subst, sym}
use Rattle.std.specs.Prelude.{MatchResult}
use Rattle.gt_word_history.specs.Rule.{position_in}
use Rattle.gt_words.specs.Answers.{MissesPin, Pins}
use Rattle.gt_words.specs.Conditions.{CanPin, IsEntryOf, position_at}
use Rattle.gt_words.specs.declared.words.Pin.{Pin}
use Rattle.gt_live.proofs.driving.take_pin.Goals as goal

pub pin_at-requires-clause-place : goal.pin_at-requires-clause-place
pin_at-requires-clause-place c =
    c.requires.place ∙ ap (λ (p : Pin). position_at c.args.words.now p.dom) (sym c.pin_of.ensures)

pub pin_at-requires-clause-entry : goal.pin_at-requires-clause-entry
pin_at-requires-clause-entry c =
    subst (λ (p : Pin). IsEntryOf c.args.words.now p.dom p.gref) (sym c.pin_of.ensures) (c.requires.can.0, c.requires.can.1)

pub pin_at-requires-clause-can : goal.pin_at-requires-clause-can
pin_at-requires-clause-can c =
    let k = c.args.words.now.layout in
    subst (λ (p : Pin). CanPin k (position_in k.ids p.dom) p.gref.0 p.dir p.word c.args.seat.now.view) (sym c.pin_of.ensures)
    c.requires.can.2

pub returns-clause-made : goal.returns-clause-made
returns-clause-made c =
    let k = c.args.words.now.layout in let v = c.args.seat.now.view in let w = c.pin_at.new.seat.view in
    subst (λ (p : Pin). MatchResult c.pin_at.result (λ _. Pins k (position_in k.ids p.dom) p.gref.0 p.dir p.word v w)
    (λ n. MissesPin k (position_in k.ids p.dom) p.gref.0 p.dir p.word n v w)) c.pin_of.ensures c.pin_at.ensures.step
