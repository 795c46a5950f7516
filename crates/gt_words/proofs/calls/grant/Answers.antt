use Rattle.std.proofs.Common.{[], subst, ◌≡◌, ℕ, ◌+◌, ap, ◌∙◌, arith}
use Rattle.gt_words.proofs.calls.grant.Goals as goal
use Rattle.gt_model.specs.Spelling.{IsSpelled, idle_word_of}
use Rattle.gt_model.specs.declared.change.BodyWord.TheVariants.{First, Second}
use Rattle.gt_word_history.specs.declared.view.View.{View}
use Rattle.gt_model.specs.Words.{control_of}
use Rattle.gt_model.specs.declared.control.Control.{Control}
use Rattle.gt_model.specs.declared.entry.Entry.{Entry}
use Rattle.gt_model.specs.declared.entry.Entry.TheVariants.{Invalid}
use Rattle.gt_words.proofs.StepDuties.{grant_owes}
use Rattle.gt_words.proofs.StepFacts.{exchange_missed, exchange_taken, finds_pins, publishes}
use Rattle.gt_words.specs.Conditions.{IsIdleOf}
use Rattle.gt_word_history.specs.Steps.{changed_word}
use Rattle.gt_word_history.specs.Views.{last_of, own_body, steps_on, stored_body}
use Rattle.gt_word_history.specs.declared.view.EntryRecord.{EntryRecord}
use Rattle.gt_model.specs.declared.change.EntryChange.TheVariants as changes
use Rattle.gt_word_history.specs.declared.view.Purpose.TheVariants as purposes

-- the generation that the word has
generation : (c : Control) (x : EntryRecord) (word : ℕ) → c ≡ control_of word → IsIdleOf x word → x.entry ≡ Invalid → c.generation ≡ x.generation
generation c x word is idle none_yet = let e : word ≡ idle_word_of Invalid x.generation = idle ∙ ap (λ (y : Entry). idle_word_of y x.generation) none_yet in let g = ap (λ (u : Control). u.generation) is in omega arith

-- the body words stand at the seat's position
at_home : (e : Entry) (v : View) (t r : ℕ) → v.position ≡ t → IsSpelled e (own_body r First v) (own_body r Second v) → IsSpelled e (stored_body First (steps_on t r v)) (stored_body Second (steps_on t r v))
at_home e v t r own s = subst (λ (u : ℕ). IsSpelled e (stored_body First (steps_on u r v)) (stored_body Second (steps_on u r v))) own s

-- the word to be stored
stored : (c : Control) (x : EntryRecord) (word : ℕ) (e : Entry) → c ≡ control_of word → IsIdleOf x word → x.entry ≡ Invalid → (new : ℕ) → new ≡ idle_word_of e (c.generation + 1) → new ≡ changed_word (changes.Publish e) x word
stored c x word e is idle none_yet new made = made ∙ ap (λ (g : ℕ). idle_word_of e (g + 1)) (generation c x word is idle none_yet)

pub exchange-found-requires-clause-may : goal.exchange-found-requires-clause-may
exchange-found-requires-clause-may c = let x = last_of c.args.at.gref c.args.seat.now.view in
    λ slots id. grant_owes c.args.words.now.layout slots id (c.args.seat.now.view, []) c.args.at.position c.args.at.gref c.requires.entry.0 c.requires.entry.1 c.requires.mine.1 c.args.entry c.args.word _ c.requires.can.idle
    (stored _ x c.args.word c.args.entry c.unpack.ensures.holds c.requires.can.idle c.requires.can.none_yet _ c.idle_word-new.ensures) c.requires.can.none_yet c.requires.given c.requires.can.some c.requires.can.room (at_home c.args.entry c.args.seat.now.view c.args.at.position c.args.at.gref c.requires.mine.1 c.requires.can.spelled)

pub returns-then-found-word-clause-step : goal.returns-then-found-word-clause-step
returns-then-found-word-clause-step c = let k = c.args.words.now.layout in let v = c.args.seat.now.view in let w = c.exchange-found.new.seat.view in let n : ℕ = c.exchange-found.result in let e = c.exchange-found.ensures.step in
    let z = exchange_taken k c.args.at.position c.args.at.gref v (purposes.Change (changes.Publish c.args.entry)) c.args.word c.idle_word-new.result n w c.if-found-word.true e.0 e.1 e.2 in
    publishes k c.args.at.position c.args.at.gref c.args.word v w c.requires.entry.0 c.requires.entry.1 c.requires.mine.1 c.args.entry c.idle_word-new.result (stored _ (last_of c.args.at.gref v) c.args.word c.args.entry c.unpack.ensures.holds c.requires.can.idle c.requires.can.none_yet _ c.idle_word-new.ensures) c.requires.can.idle z

pub returns-else-found-word-clause-step : goal.returns-else-found-word-clause-step
returns-else-found-word-clause-step c = let k = c.args.words.now.layout in let v = c.args.seat.now.view in let w = c.exchange-found.new.seat.view in let n : ℕ = c.exchange-found.result in let e = c.exchange-found.ensures.step in
    let z = exchange_missed k c.args.at.position c.args.at.gref v (purposes.Change (changes.Publish c.args.entry)) c.args.word c.idle_word-new.result n w c.if-found-word.false e.0 e.1 e.2 in
    finds_pins k c.args.at.position c.args.at.gref c.args.word v w c.requires.entry.0 c.requires.entry.1 c.requires.mine.1 (changes.Publish c.args.entry) c.idle_word-new.result n (stored _ (last_of c.args.at.gref v) c.args.word c.args.entry c.unpack.ensures.holds c.requires.can.idle c.requires.can.none_yet _ c.idle_word-new.ensures) c.requires.can.idle c.if-found-word.false z
