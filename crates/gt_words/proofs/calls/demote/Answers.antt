use Rattle.std.proofs.Common.{[], ◌<◌, arith, ℕ, true}
use Rattle.gt_words.proofs.calls.demote.Goals as goal
use Rattle.gt_words.proofs.StepDuties.{demote_owes}
use Rattle.gt_words.proofs.StepFacts.{demotes, exchange_missed, exchange_taken, finds_another, turnable}
use Rattle.gt_words.proofs.StepFacts.{word_generation}
use Rattle.gt_types.specs.declared.limits.TheConstants.{LAST_GENERATION}
use Rattle.gt_words.specs.Conditions.{IsWordOf}
use Rattle.gt_word_history.specs.Controls.{generation_of}
use Rattle.gt_word_history.specs.declared.view.EntryRecord.{EntryRecord}
use Rattle.gt_word_history.specs.Views.{last_of}
use Rattle.gt_model.specs.declared.change.EntryChange.TheVariants as changes
use Rattle.gt_word_history.specs.declared.view.Purpose.TheVariants as purposes

-- the word is not worn
low : (x : EntryRecord) (word : ℕ) → IsWordOf x word → x.generation < LAST_GENERATION → generation_of word < LAST_GENERATION
low x word h few = let e = word_generation x word h in omega arith

pub turned_over-new-requires : goal.turned_over-new-requires
turned_over-new-requires c = let can = c.requires.can.0 in (low _ c.args.word can.word_is can.room, turnable true (last_of c.args.at.gref c.args.seat.now.view) c.args.word can.word_is can.some can.now)

pub exchange-found-requires-clause-may : goal.exchange-found-requires-clause-may
exchange-found-requires-clause-may c = λ slots id. demote_owes c.args.words.now.layout slots id (c.args.seat.now.view, []) c.args.at.position c.args.at.gref c.requires.entry.0 c.requires.entry.1 c.requires.mine.1 c.args.word _ c.requires.can.0.some (let can = c.requires.can.0 in low _ c.args.word can.word_is can.room) c.requires.can.0.now c.requires.can.1 c.turned_over-new.ensures

pub returns-then-found-word-clause-step : goal.returns-then-found-word-clause-step
returns-then-found-word-clause-step c = let k = c.args.words.now.layout in let v = c.args.seat.now.view in let w = c.exchange-found.new.seat.view in let n : ℕ = c.exchange-found.result in let e = c.exchange-found.ensures.step in
    let z = exchange_taken k c.args.at.position c.args.at.gref v (purposes.Change changes.Demote) c.args.word c.turned_over-new.result n w c.if-found-word.true e.0 e.1 e.2 in
    demotes k c.args.at.position c.args.at.gref c.args.word v w c.requires.entry.0 c.requires.entry.1 c.requires.mine.1 c.turned_over-new.result c.turned_over-new.ensures c.requires.can.1 z

pub returns-else-found-word-clause-step : goal.returns-else-found-word-clause-step
returns-else-found-word-clause-step c = let k = c.args.words.now.layout in let v = c.args.seat.now.view in let w = c.exchange-found.new.seat.view in let n : ℕ = c.exchange-found.result in let e = c.exchange-found.ensures.step in
    let z = exchange_missed k c.args.at.position c.args.at.gref v (purposes.Change changes.Demote) c.args.word c.turned_over-new.result n w c.if-found-word.false e.0 e.1 e.2 in
    finds_another k c.args.at.position c.args.at.gref c.args.word v w c.requires.entry.0 c.requires.entry.1 c.requires.mine.1 changes.Demote c.turned_over-new.result n c.turned_over-new.ensures c.if-found-word.false z
