use Rattle.std.proofs.Common.{[], ℕ}
use Rattle.gt_words.proofs.calls.withdraw.Goals as goal
use Rattle.gt_words.proofs.StepDuties.{withdraw_owes}
use Rattle.gt_words.proofs.StepFacts.{exchange_missed, exchange_taken, finds_another, takes_change}
use Rattle.gt_model.specs.declared.change.EntryChange.TheVariants as changes
use Rattle.gt_word_history.specs.declared.view.Purpose.TheVariants as purposes

pub exchange-found-requires-clause-may : goal.exchange-found-requires-clause-may
exchange-found-requires-clause-may c = λ slots id. withdraw_owes c.args.words.now.layout slots id (c.args.seat.now.view, []) c.args.at.position c.args.at.gref c.requires.entry.0 c.requires.entry.1 c.requires.mine.1 c.args.word _ c.withdrawn-new.ensures

pub returns-then-found-word-clause-step : goal.returns-then-found-word-clause-step
returns-then-found-word-clause-step c = let k = c.args.words.now.layout in let v = c.args.seat.now.view in let w = c.exchange-found.new.seat.view in let n : ℕ = c.exchange-found.result in let e = c.exchange-found.ensures.step in
    let z = exchange_taken k c.args.at.position c.args.at.gref v (purposes.Change changes.Withdraw) c.args.word c.withdrawn-new.result n w c.if-found-word.true e.0 e.1 e.2 in
    takes_change k c.args.at.position c.args.at.gref c.args.word v w c.requires.entry.0 c.requires.entry.1 c.requires.mine.1 changes.Withdraw c.withdrawn-new.result c.withdrawn-new.ensures z

pub returns-else-found-word-clause-step : goal.returns-else-found-word-clause-step
returns-else-found-word-clause-step c = let k = c.args.words.now.layout in let v = c.args.seat.now.view in let w = c.exchange-found.new.seat.view in let n : ℕ = c.exchange-found.result in let e = c.exchange-found.ensures.step in
    let z = exchange_missed k c.args.at.position c.args.at.gref v (purposes.Change changes.Withdraw) c.args.word c.withdrawn-new.result n w c.if-found-word.false e.0 e.1 e.2 in
    finds_another k c.args.at.position c.args.at.gref c.args.word v w c.requires.entry.0 c.requires.entry.1 c.requires.mine.1 changes.Withdraw c.withdrawn-new.result n c.withdrawn-new.ensures c.if-found-word.false z
