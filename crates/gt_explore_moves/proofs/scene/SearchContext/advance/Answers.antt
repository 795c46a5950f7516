use Rattle.std.proofs.Common.{sym}
use Rattle.gt_explore_moves.proofs.MovesAlong.{actor-at, begin-along, give-along, pass-along, raise-along, tick-along}
use Rattle.gt_explore_moves.proofs.scene.SearchContext.advance.Goals as goal

pub returns-in-Some-open : goal.returns-in-Some-open
returns-in-Some-open c = let w = c.args.world.now in let place = c.args.turn.place in let a = c.in-Some.actor.now in
    let there = actor-at c.deref.result.now w.actors.items place a c.in-Some.ensures.lookup.0 c.in-Some.ensures.lookup.1 c.deref.ensures.value in
    tick-along c.args.self.now place c.args.turn.choice w c.tick.new.world a c.in-Some-open.open c.tick.result there c.in-Some-open.is c.tick.ensures

pub returns-in_default-task : goal.returns-in_default-task
returns-in_default-task c = let w = c.args.world.now in let place = c.args.turn.place in let a = c.in-Some.actor.now in
    let there = actor-at c.deref.result.now w.actors.items place a c.in-Some.ensures.lookup.0 c.in-Some.ensures.lookup.1 c.deref.ensures.value in
    give-along c.args.self.now place c.args.turn.choice w c.give_back.new.world a c.give_back.result there c.in_default-open.is (sym c.in_default-task.ensures) c.give_back.ensures

pub returns-in-Do : goal.returns-in-Do
returns-in-Do c = let w = c.args.world.now in let place = c.args.turn.place in let a = c.in-Some.actor.now in let task = c.in-Some-task.task.now in
    let there = actor-at c.deref.result.now w.actors.items place a c.in-Some.ensures.lookup.0 c.in-Some.ensures.lookup.1 c.deref.ensures.value in
    begin-along c.args.self.now place c.args.turn.choice w c.begin_call.new.world a task c.in-Do.call c.begin_call.result there c.in_default-open.is (sym c.in-Some-task.ensures) c.in-Do.is c.said_fits.ensures c.begin_call.ensures

pub returns-in-Tell : goal.returns-in-Tell
returns-in-Tell c = let w = c.args.world.now in let place = c.args.turn.place in let a = c.in-Some.actor.now in let task = c.in-Some-task.task.now in
    let there = actor-at c.deref.result.now w.actors.items place a c.in-Some.ensures.lookup.0 c.in-Some.ensures.lookup.1 c.deref.ensures.value in
    raise-along c.args.self.now place c.args.turn.choice w c.raise.new.world a task c.in-Tell.flag c.raise.result there c.in_default-open.is (sym c.in-Some-task.ensures) c.in-Tell.is c.raise.ensures

pub returns-in-Await : goal.returns-in-Await
returns-in-Await c = let w = c.args.world.now in let place = c.args.turn.place in let a = c.in-Some.actor.now in let task = c.in-Some-task.task.now in
    let there = actor-at c.deref.result.now w.actors.items place a c.in-Some.ensures.lookup.0 c.in-Some.ensures.lookup.1 c.deref.ensures.value in
    pass-along c.args.self.now place c.args.turn.choice w c.go_past.new.world a task c.in-Await.flag c.go_past.result there c.in_default-open.is (sym c.in-Some-task.ensures) c.in-Await.is c.go_past.ensures.raised
