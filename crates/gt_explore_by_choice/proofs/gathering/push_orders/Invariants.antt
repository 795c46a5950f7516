use Rattle.std.proofs.Common.{◌≡◌, ◌++◌}
use Rattle.gt_explore_by_choice.proofs.gathering.push_orders.Given as goal

-- the orders so far, and then those that are left
abbrev pub invariant-more : goal.invariant-more
invariant-more l = l.orders.items ++ l.order-iterator.rest.items ≡ l.initial.orders.items ++ l.fn.more.items
