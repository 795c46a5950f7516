use Rattle.std.proofs.Common.{◌∙◌, List, ap, sym}
use Rattle.std.proofs.lemmas.Option.{none-some, slice_get_past}
use Rattle.std.specs.Prelude.{slice_get}
use Rattle.gt_explore_moves.proofs.MovesAlong.{actor-at}
use Rattle.gt_explore_moves.specs.declared.actor.Actor.{Actor}
use Rattle.gt_explore_races.proofs.Stepping.{actor-there, next-is, no-call, no-index, no-task, one-move, shown-at}
use Rattle.gt_explore_races.proofs.space.RaceSpace.next_step.Goals as goal

pub returns-in_default-clause-next : goal.returns-in_default-clause-next
returns-in_default-clause-next c = λ p line y shows next.
    let place = c.args.place in
    let a = actor-there c.args.self.now.scene c.args.state.now p shows place line y next in
    absurd (none-some a.0 (sym (slice_get_past c.deref.result.now place c.in_default.ensures.lookup.3) ∙ ap (λ (l : List Actor). slice_get l place) c.deref.ensures.value ∙ a.1))

pub returns-in_default-open-clause-next : goal.returns-in_default-open-clause-next
returns-in_default-open-clause-next c = λ p line y shows next.
    let scene = c.args.self.now.scene in let w = c.args.state.now in let place = c.args.place in let a = c.in-Some.actor.now in
    let there = actor-at c.deref.result.now w.actors.items place a c.in-Some.ensures.lookup.0 c.in-Some.ensures.lookup.1 c.deref.ensures.value in
    absurd (no-call scene place a line y (shown-at scene w p shows place line y a next there) c.in_default-open.is)

pub returns-in_default-task-clause-next : goal.returns-in_default-task-clause-next
returns-in_default-task-clause-next c = λ p line y shows next.
    let scene = c.args.self.now.scene in let w = c.args.state.now in let place = c.args.place in let a = c.in-Some.actor.now in
    let there = actor-at c.deref.result.now w.actors.items place a c.in-Some.ensures.lookup.0 c.in-Some.ensures.lookup.1 c.deref.ensures.value in
    absurd (no-index scene place a line y (shown-at scene w p shows place line y a next there) c.in-Some-open.open c.in-Some-open.is c.in_default-task.is)

pub returns-in_default-task-2-clause-next : goal.returns-in_default-task-2-clause-next
returns-in_default-task-2-clause-next c = λ p line y shows next.
    let scene = c.args.self.now.scene in let w = c.args.state.now in let place = c.args.place in let a = c.in-Some.actor.now in
    let there = actor-at c.deref.result.now w.actors.items place a c.in-Some.ensures.lookup.0 c.in-Some.ensures.lookup.1 c.deref.ensures.value in
    absurd (no-task scene place a line y (shown-at scene w p shows place line y a next there) c.in-Some-open.open c.in-Some-task.index c.in-Some-open.is c.in-Some-task.is c.in_default-task-2.ensures)

pub returns-clause-next : goal.returns-clause-next
returns-clause-next c = λ p line y shows next.
    let scene = c.args.self.now.scene in let w = c.args.state.now in let place = c.args.place in let a = c.in-Some.actor.now in
    let there = actor-at c.deref.result.now w.actors.items place a c.in-Some.ensures.lookup.0 c.in-Some.ensures.lookup.1 c.deref.ensures.value in
    next-is scene place a line y (shown-at scene w p shows place line y a next there) c.in-Some-open.open c.in-Some-task.index c.in-Some-task-2.task.now c.in-Some-open.is c.in-Some-task.is c.in-Some-task-2.ensures

pub returns-clause-one : goal.returns-clause-one
returns-clause-one c = λ some p q choice shows next.
    let w = c.args.state.now in let place = c.args.place in let a = c.in-Some.actor.now in
    let there = actor-at c.deref.result.now w.actors.items place a c.in-Some.ensures.lookup.0 c.in-Some.ensures.lookup.1 c.deref.ensures.value in
    one-move c.args.self.now.scene w p shows q place choice a c.in-Some-open.open there c.in-Some-open.is next
