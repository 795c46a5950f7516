use Rattle.std.proofs.Common.{[], ℕ, ◌-◌, arith, subst, sym}
use Rattle.gt_words.specs.Answers.{UnpinsTo}
use Rattle.gt_words.proofs.calls.unpin.Goals as goal
use Rattle.gt_words.proofs.StepDuties.{unpin_owes}
use Rattle.gt_words.proofs.StepFacts.{unit-counted, unpins, unpins-to}

pub subtract_pin-found-requires-clause-may : goal.subtract_pin-found-requires-clause-may
subtract_pin-found-requires-clause-may c = λ slots id. unpin_owes c.args.words.now.layout slots id (c.args.seat.now.view, []) c.args.at.position c.args.at.gref c.requires.entry.0 c.requires.entry.1 c.args.dir c.args.generation c.requires.held

pub overflow_sub-result : goal.overflow_sub-result
overflow_sub-result c = let k = c.args.words.now.layout in let n : ℕ = c.subtract_pin-found.result in let e = c.subtract_pin-found.ensures.step in
    let enough = unit-counted k c.args.at.position c.args.at.gref c.args.dir c.args.generation c.args.seat.now.view n c.subtract_pin-found.new.seat.view c.requires.entry.0 c.requires.entry.1 c.requires.held (omega arith) e.0 e.1 e.2 in
    let unit = c.pin_unit.ensures in grind arith

pub returns-clause-step : goal.returns-clause-step
returns-clause-step c = let k = c.args.words.now.layout in let n : ℕ = c.subtract_pin-found.result in let e = c.subtract_pin-found.ensures.step in
    unpins k c.args.at.position c.args.at.gref c.args.dir c.args.generation c.args.seat.now.view n c.subtract_pin-found.new.seat.view c.requires.entry.0 c.requires.entry.1 c.requires.held (omega arith) e.0 e.1 e.2

pub returns-clause-left : goal.returns-clause-left
returns-clause-left c = let k = c.args.words.now.layout in let n : ℕ = c.subtract_pin-found.result in let e = c.subtract_pin-found.ensures.step in
    subst (λ (u : ℕ). UnpinsTo k c.args.at.position c.args.at.gref c.args.dir c.args.generation (n - u) c.args.seat.now.view c.subtract_pin-found.new.seat.view) (sym c.pin_unit.ensures)
    (unpins-to k c.args.at.position c.args.at.gref c.args.dir c.args.generation c.args.seat.now.view n c.subtract_pin-found.new.seat.view c.requires.entry.0 c.requires.entry.1 c.requires.held (omega arith) e.0 e.1 e.2)
