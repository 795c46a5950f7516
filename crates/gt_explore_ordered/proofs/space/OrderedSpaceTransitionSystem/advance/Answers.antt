use Rattle.std.proofs.Common.{List, ℕ, subst}
use Rattle.gt_explore_ordered.specs.Spaces.{IsNoted}
use Rattle.gt_explore_ordered.proofs.OrderedRuns.{moves}
use Rattle.gt_explore_ordered.proofs.space.OrderedSpaceTransitionSystem.advance.Goals as goal

pub returns : goal.returns
returns c =
    moves c.args.self.now.scene c.args.self.now.orders.now c.args.state.now c.args.turn c.in_ok-led.led c.in_ok-made.made c.advance.new.state
    (subst (λ (marks : List ℕ). IsNoted marks c.in_ok-led.led c.in_ok-made.made) c.in_ok-marks.ensures c.in_ok-made.ensures) c.in_ok-led.ensures
