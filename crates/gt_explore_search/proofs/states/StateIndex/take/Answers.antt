use Rattle.std.proofs.Common.{sym, ◌∙◌}
use Rattle.gt_explore_search.proofs.Numbering.{hand-here}
use Rattle.gt_explore_search.proofs.states.StateIndex.take.Goals as goal

pub returns-then-whole-number-clause-state : goal.returns-then-whole-number-clause-state
returns-then-whole-number-clause-state g c = λ all more holds.
    hand-here (g.S.TransitionSystem.ways c.args.space.now) (g.S.TransitionSystem.parts c.args.space.now) all c.args.self.now.met c.args.hand.now c.in-Some.whole c.args.number (sym c.take.ensures.value ∙ c.in-Some.is) c.if-whole-number.true holds
