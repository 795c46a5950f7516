use Rattle.std.proofs.Common.{◌≡◌, map, take}
use Rattle.std.specs.Str.Lines.{lines as lines_in}
use Rattle.gt_explore_precedence.specs.Judging.{order_satisfies}
use Rattle.gt_explore_precedence.proofs.judging.orders_satisfy.Given as goal

-- the orders so far
abbrev pub invariant-orders : goal.invariant-orders
invariant-orders l =
    l.met.items ≡ map (order_satisfies (lines_in l.claim.source.now) l.claim.expression.now) (take l.order-index l.orders)
