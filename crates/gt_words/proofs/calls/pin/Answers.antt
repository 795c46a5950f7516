use Rattle.std.proofs.Common.{[], ℕ, ◌+◌, ap, subst}
use Rattle.gt_words.proofs.calls.pin.Goals as goal
use Rattle.gt_words.proofs.StepDuties.{pin_owes}
use Rattle.gt_words.proofs.StepFacts.{counts_pins, exchange_missed, exchange_taken, misses_pin, pins_entry}
use Rattle.gt_words.specs.Answers.{StepsOnControl}
use Rattle.gt_word_history.specs.Views.{last_seen, record_seen}
use Rattle.gt_word_history.specs.declared.view.EntryStep.TheVariants.{PinMissed, Pinned}
use Rattle.gt_word_history.specs.declared.view.Purpose.TheVariants as purposes

pub exchange-found-requires-clause-may : goal.exchange-found-requires-clause-may
exchange-found-requires-clause-may c = λ slots id. pin_owes c.args.words.now.layout slots id (c.args.seat.now.view, []) c.args.at.position c.args.at.gref c.requires.entry.0 c.requires.entry.1 c.args.dir c.args.looked _ (ap (λ u. c.args.looked + u) c.pin_unit.ensures) c.requires.can.looked c.requires.can.valid c.requires.can.permitted c.requires.can.room

pub returns-then-found-looked-clause-step : goal.returns-then-found-looked-clause-step
returns-then-found-looked-clause-step c = let k = c.args.words.now.layout in let v = c.args.seat.now.view in let w = c.exchange-found.new.seat.view in let n : ℕ = c.exchange-found.result in let e = c.exchange-found.ensures.step in
    let z = exchange_taken k c.args.at.position c.args.at.gref v (purposes.Pin c.args.dir) c.args.looked (c.args.looked + c.pin_unit.result) n w c.if-found-looked.true e.0 e.1 e.2 in
    let f = subst (λ (u : ℕ). StepsOnControl k c.args.at.position c.args.at.gref (Pinned c.args.dir c.args.looked (record_seen (last_seen c.args.at.position c.args.at.gref v))) c.args.looked (c.args.looked + u) v w) c.pin_unit.ensures z in
    pins_entry k c.args.at.position c.args.at.gref c.args.dir c.args.looked v w c.requires.entry.0 c.requires.entry.1 c.requires.can.looked c.requires.can.valid c.requires.can.permitted f

pub returns-else-found-looked-clause-step : goal.returns-else-found-looked-clause-step
returns-else-found-looked-clause-step c = let k = c.args.words.now.layout in let v = c.args.seat.now.view in let w = c.exchange-found.new.seat.view in let n : ℕ = c.exchange-found.result in let e = c.exchange-found.ensures.step in
    let z = exchange_missed k c.args.at.position c.args.at.gref v (purposes.Pin c.args.dir) c.args.looked (c.args.looked + c.pin_unit.result) n w c.if-found-looked.false e.0 e.1 e.2 in
    let f = subst (λ (u : ℕ). StepsOnControl k c.args.at.position c.args.at.gref (PinMissed c.args.dir c.args.looked (c.args.looked + u) n) n n v w) c.pin_unit.ensures z in
    misses_pin k c.args.at.position c.args.at.gref c.args.dir c.args.looked v w c.requires.entry.0 c.requires.entry.1 c.requires.can.looked n c.if-found-looked.false f

pub returns-then-found-looked-clause-counted : goal.returns-then-found-looked-clause-counted
returns-then-found-looked-clause-counted c = counts_pins c.args.words.now.layout c.args.at.position c.args.at.gref c.args.dir c.requires.entry.0 c.requires.entry.1

pub returns-else-found-looked-clause-counted : goal.returns-else-found-looked-clause-counted
returns-else-found-looked-clause-counted c = counts_pins c.args.words.now.layout c.args.at.position c.args.at.gref c.args.dir c.requires.entry.0 c.requires.entry.1
