use Rattle.std.proofs.lemmas.Result.{IfOk-weaker}
use Rattle.gt_explore_ordered.proofs.OrderedRuns.{starts}
use Rattle.gt_explore_ordered.proofs.space.OrderedSpaceTransitionSystem.start.Goals as goal

pub returns : goal.returns
returns c =
    IfOk-weaker c.start.result _ _ (λ w shows. starts c.args.self.now.scene c.args.self.now.orders.now w shows) c.start.ensures
