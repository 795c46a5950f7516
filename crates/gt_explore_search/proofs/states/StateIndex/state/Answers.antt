use Rattle.std.proofs.Common.{List, ℕ, subst}
use Rattle.gt_explore_search.specs.Parts.{RepeatsPart, Pairwise}
use Rattle.gt_explore_search.proofs.Numbering.{state-at}
use Rattle.gt_explore_search.proofs.states.StateIndex.state.Goals as goal

pub returns-then-is_met : goal.returns-then-is_met
returns-then-is_met g c = λ all more.
    state-at (g.S.TransitionSystem.ways c.args.space.now) (g.S.TransitionSystem.parts c.args.space.now) c.args.self.now.parts.kept.items all c.args.self.now.met c.args.number c.read.new.out.items c.in_ok-parts.parts.items c.in_ok-join.field-0
    (c.in_ok-is_met.ensures c.if-is_met.true) more
    (subst (λ (l : List ℕ). Pairwise (RepeatsPart (g.S.TransitionSystem.parts c.args.space.now) c.args.self.now.parts.kept.items) l c.in_ok-parts.parts.items) c.as_slice.ensures.value c.in_ok-parts.ensures)
    c.in_ok-join.ensures
