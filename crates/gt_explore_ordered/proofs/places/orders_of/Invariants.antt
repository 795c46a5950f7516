use Rattle.std.proofs.Common.{take}
use Rattle.gt_explore_search.specs.Parts.{Pairwise}
use Rattle.gt_explore_ordered.specs.Places.{OrderIsFound, task_lists}
use Rattle.gt_explore_ordered.proofs.places.orders_of.Given as goal

-- the calls of the precedences so far were found
abbrev pub invariant-all : goal.invariant-all
invariant-all l = Pairwise (OrderIsFound (task_lists l.scene.lists.items)) (take l.lines-index l.all) l.orders.items
