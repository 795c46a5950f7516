use Rattle.std.proofs.Common.{[], ◌≡◌, ℕ, ap, ◌∙◌, arith}
use Rattle.gt_words.proofs.calls.revoke.Goals as goal
use Rattle.gt_model.specs.Spelling.{idle_word_of}
use Rattle.gt_model.specs.Words.{control_of}
use Rattle.gt_model.specs.declared.control.Control.{Control}
use Rattle.gt_model.specs.declared.entry.Entry.TheVariants.{Invalid}
use Rattle.gt_words.proofs.StepDuties.{revoke_owes}
use Rattle.gt_words.proofs.StepFacts.{exchange_missed, exchange_taken, finds_pins, revokes}
use Rattle.gt_word_history.specs.Controls.{invalid_word}
use Rattle.gt_model.specs.declared.change.EntryChange.TheVariants as changes
use Rattle.gt_word_history.specs.declared.view.Purpose.TheVariants as purposes

-- the invalid word of the same generation
new_word : (c : Control) (word new : ℕ) → c ≡ control_of word → new ≡ idle_word_of Invalid c.generation → new ≡ invalid_word word
new_word c word new is made = let g = ap (λ (u : Control). u.generation) is in made ∙ (let e : idle_word_of Invalid c.generation ≡ invalid_word word = omega arith in e)

pub exchange-found-requires-clause-may : goal.exchange-found-requires-clause-may
exchange-found-requires-clause-may c = λ slots id. revoke_owes c.args.words.now.layout slots id (c.args.seat.now.view, []) c.args.at.position c.args.at.gref c.requires.entry.0 c.requires.entry.1 c.requires.mine.1 c.args.word _ c.requires.can.idle (new_word _ c.args.word _ c.unpack.ensures.holds c.idle_word-new.ensures)

pub returns-then-found-word-clause-step : goal.returns-then-found-word-clause-step
returns-then-found-word-clause-step c = let k = c.args.words.now.layout in let v = c.args.seat.now.view in let w = c.exchange-found.new.seat.view in let n : ℕ = c.exchange-found.result in let e = c.exchange-found.ensures.step in
    let z = exchange_taken k c.args.at.position c.args.at.gref v (purposes.Change changes.Revoke) c.args.word _ n w c.if-found-word.true e.0 e.1 e.2 in
    revokes k c.args.at.position c.args.at.gref c.args.word v w c.requires.entry.0 c.requires.entry.1 c.requires.mine.1 _ (new_word _ c.args.word _ c.unpack.ensures.holds c.idle_word-new.ensures) c.requires.can.idle z

pub returns-else-found-word-clause-step : goal.returns-else-found-word-clause-step
returns-else-found-word-clause-step c = let k = c.args.words.now.layout in let v = c.args.seat.now.view in let w = c.exchange-found.new.seat.view in let n : ℕ = c.exchange-found.result in let e = c.exchange-found.ensures.step in
    let z = exchange_missed k c.args.at.position c.args.at.gref v (purposes.Change changes.Revoke) c.args.word _ n w c.if-found-word.false e.0 e.1 e.2 in
    finds_pins k c.args.at.position c.args.at.gref c.args.word v w c.requires.entry.0 c.requires.entry.1 c.requires.mine.1 changes.Revoke _ n (new_word _ c.args.word _ c.unpack.ensures.holds c.idle_word-new.ensures) c.requires.can.idle c.if-found-word.false z
