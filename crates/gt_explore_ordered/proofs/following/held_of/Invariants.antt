use Rattle.std.proofs.Common.{◌≡◌, List, map, take}
use Rattle.gt_explore_replay.specs.Orders.{Happening}
use Rattle.gt_explore_ordered.specs.Holding.{held_if, move_shown}
use Rattle.gt_explore_ordered.proofs.following.held_of.Given as goal

-- the precedences so far
abbrev pub invariant-orders : goal.invariant-orders
invariant-orders l = (hs : List Happening) → l.moves ≡ map move_shown hs
    → l.held.items ≡ map (held_if hs) (take l.order-index l.orders)
