use Rattle.gt_explore_search.specs.Parts.{by_numbers}
use Rattle.gt_explore_search.proofs.Growing.{grew_same, grew_on}
use Rattle.gt_explore_search.proofs.Numbering.{extends-on, extends-self}
use Rattle.gt_explore_search.proofs.Trying.{each_first}
use Rattle.gt_explore_search.proofs.exploring.Explorer.walk_within.Goals as goal

pub tries-init : goal.tries-init
tries-init g c = record {
  grows = extends-self c.args.self.now.states.parts.kept.items;
  holds = λ all more holds visit. (
    holds,
    grew_same c.args.self.now,
    each_first (by_numbers (g.S.TransitionSystem.ways c.args.space.now) (g.S.TransitionSystem.parts c.args.space.now) all) c.args.self.now c.new-stack.result.items c.push.new.self.items c.args.first c.new-stack.ensures.items c.in_ok-push.ensures.items visit,
    tt,
  );
}

pub returns-then-not-branch-clause-grows : goal.returns-then-not-branch-clause-grows
returns-then-not-branch-clause-grows g c = extends-on c.args.self.now.states.parts.kept.items c.tries.self.states.parts.kept.items c.try_next.new.self.states.parts.kept.items c.tries.invariant.grows c.in_ok-try_next.ensures.grows

pub returns-then-not-branch-clause-holds : goal.returns-then-not-branch-clause-holds
returns-then-not-branch-clause-holds g c = λ all more holds visit.
    let i = c.tries.invariant.holds all (extends-on c.tries.self.states.parts.kept.items c.try_next.new.self.states.parts.kept.items all c.in_ok-try_next.ensures.grows more) holds visit in
    let t = c.in_ok-try_next.ensures.holds all more i.0 i.2 i.3 in
    (t.0, grew_on c.args.self.now c.tries.self c.try_next.new.self i.1 t.1)

pub tries-preserved : goal.tries-preserved
tries-preserved g c = record {
  grows = extends-on c.args.self.now.states.parts.kept.items c.tries.self.states.parts.kept.items c.try_next.new.self.states.parts.kept.items c.tries.invariant.grows c.in_ok-try_next.ensures.grows;
  holds = λ all more holds visit.
      let i = c.tries.invariant.holds all (extends-on c.tries.self.states.parts.kept.items c.try_next.new.self.states.parts.kept.items all c.in_ok-try_next.ensures.grows more) holds visit in
      let t = c.in_ok-try_next.ensures.holds all more i.0 i.2 i.3 in
      (t.0, grew_on c.args.self.now c.tries.self c.try_next.new.self i.1 t.1, t.2, t.3);
}
