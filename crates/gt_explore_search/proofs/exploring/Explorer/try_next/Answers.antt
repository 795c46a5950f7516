use Rattle.std.proofs.Common.{rules, arith, subst, Option, IfSome}
use Rattle.gt_explore_search.specs.Exploring.{VisitHolds}
use Rattle.gt_explore_search.specs.Parts.{by_numbers}
use Rattle.gt_explore_search.specs.declared.exploring.OpenNode.{OpenNode}
use Rattle.gt_explore_search.proofs.Numbering.{hand-grown}
use Rattle.gt_explore_search.proofs.Trying.{each_on, each_pop, each_push}
use Rattle.gt_explore_search.proofs.exploring.Explorer.try_next.Goals as goal

pub returns-in_default-turn-clause-holds : goal.returns-in_default-turn-clause-holds
returns-in_default-turn-clause-holds g c = λ all more holds each hand.
    let p = each_pop (by_numbers (g.S.TransitionSystem.ways c.args.space.now) (g.S.TransitionSystem.parts c.args.space.now) all) c.args.self.now c.args.stack.now.items c.pop.new.self.items c.in-Some.visit c.in-Some.ensures.items each in
    let f = c.in_ok-finish.ensures.holds all holds p.1 (first_of (search rules, grind (arith, rules))) in
    (f.0, f.1, each_on (by_numbers (g.S.TransitionSystem.ways c.args.space.now) (g.S.TransitionSystem.parts c.args.space.now) all) c.args.self.now c.finish.new.self c.pop.new.self.items holds.whole f.1 p.0, hand-grown (g.S.TransitionSystem.ways c.args.space.now) (g.S.TransitionSystem.parts c.args.space.now) all c.args.self.now.states.met c.finish.new.self.states.met c.args.hand.now f.1.worlds hand)

pub returns-in-Some-made-clause-holds : goal.returns-in-Some-made-clause-holds
returns-in-Some-made-clause-holds g c = λ all more holds each hand.
    let p = each_pop (by_numbers (g.S.TransitionSystem.ways c.args.space.now) (g.S.TransitionSystem.parts c.args.space.now) all) c.args.self.now c.args.stack.now.items c.pop.new.self.items c.in-Some.visit c.in-Some.ensures.items each in
    let s = c.in_ok-back.ensures.steps all holds p.1 c.in-Some-turn.ensures.turn c.in-Some-made.is in (
      s.holds,
      s.grew,
      each_push (by_numbers (g.S.TransitionSystem.ways c.args.space.now) (g.S.TransitionSystem.parts c.args.space.now) all) c.back.new.self c.pop.new.self.items c.push.new.self.items c.back.new.visit c.in_ok-push.ensures.items
          (each_on (by_numbers (g.S.TransitionSystem.ways c.args.space.now) (g.S.TransitionSystem.parts c.args.space.now) all) c.args.self.now c.back.new.self c.pop.new.self.items holds.whole s.grew p.0) s.visit,
      hand-grown (g.S.TransitionSystem.ways c.args.space.now) (g.S.TransitionSystem.parts c.args.space.now) all c.args.self.now.states.met c.back.new.self.states.met c.args.hand.now s.grew.worlds hand,
    )

pub returns-in_ok-push-3-clause-holds : goal.returns-in_ok-push-3-clause-holds
returns-in_ok-push-3-clause-holds g c = λ all more holds each hand.
    let p = each_pop (by_numbers (g.S.TransitionSystem.ways c.args.space.now) (g.S.TransitionSystem.parts c.args.space.now) all) c.args.self.now c.args.stack.now.items c.pop.new.self.items c.in-Some.visit c.in-Some.ensures.items each in
    let s = c.in_ok-deeper.ensures.steps all more holds p.1 hand c.in-Some-turn.ensures.turn in
    let first = each_push (by_numbers (g.S.TransitionSystem.ways c.args.space.now) (g.S.TransitionSystem.parts c.args.space.now) all) c.make.new.self c.pop.new.self.items c.push-2.new.self.items c.make.new.visit c.in_ok-push-2.ensures.items
    (each_on (by_numbers (g.S.TransitionSystem.ways c.args.space.now) (g.S.TransitionSystem.parts c.args.space.now) all) c.args.self.now c.make.new.self c.pop.new.self.items holds.whole s.grew p.0) s.visit in (
      s.holds,
      s.grew,
      each_push (by_numbers (g.S.TransitionSystem.ways c.args.space.now) (g.S.TransitionSystem.parts c.args.space.now) all) c.make.new.self c.push-2.new.self.items c.push-in-Some-deeper.new.self.items c.in-Some-deeper.deeper c.in_ok-push-3.ensures.items first
          (subst (λ (d : Option OpenNode). IfSome d (VisitHolds (by_numbers (g.S.TransitionSystem.ways c.args.space.now) (g.S.TransitionSystem.parts c.args.space.now) all) c.make.new.self)) c.in-Some-deeper.is s.deeper),
      c.in_ok-deeper.ensures.hand all more,
    )

pub returns-in_default-deeper-clause-holds : goal.returns-in_default-deeper-clause-holds
returns-in_default-deeper-clause-holds g c = λ all more holds each hand.
    let p = each_pop (by_numbers (g.S.TransitionSystem.ways c.args.space.now) (g.S.TransitionSystem.parts c.args.space.now) all) c.args.self.now c.args.stack.now.items c.pop.new.self.items c.in-Some.visit c.in-Some.ensures.items each in
    let s = c.in_ok-deeper.ensures.steps all more holds p.1 hand c.in-Some-turn.ensures.turn in (
      s.holds,
      s.grew,
      each_push (by_numbers (g.S.TransitionSystem.ways c.args.space.now) (g.S.TransitionSystem.parts c.args.space.now) all) c.make.new.self c.pop.new.self.items c.push-2.new.self.items c.make.new.visit c.in_ok-push-2.ensures.items
          (each_on (by_numbers (g.S.TransitionSystem.ways c.args.space.now) (g.S.TransitionSystem.parts c.args.space.now) all) c.args.self.now c.make.new.self c.pop.new.self.items holds.whole s.grew p.0) s.visit,
      c.in_ok-deeper.ensures.hand all more,
    )
