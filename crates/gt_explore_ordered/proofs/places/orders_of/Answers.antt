use Rattle.std.proofs.Common.{get_or, refl}
use Rattle.gt_explore_search.proofs.Numbering.{pair-step}
use Rattle.gt_explore_ordered.specs.Places.{OrderIsFound, task_lists}
use Rattle.gt_explore_ordered.proofs.places.orders_of.Goals as goal

pub all-preserved : goal.all-preserved
all-preserved c =
    pair-step (OrderIsFound (task_lists c.args.scene.now.lists.items)) c.args.all.now c.all.orders.items c.push.new.self.items c.all.lines-index (get_or c.args.all.now c.all.lines-index (record { first = 0; second = 0 }))
    (record { first = 0; second = 0 }) c.order_of.result c.all-test.true c.all.invariant refl c.order_of.ensures c.in_ok-push.ensures.items
