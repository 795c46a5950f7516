use Rattle.std.proofs.Common.{◌≡◌, ◌++◌, drop}
use Rattle.gt_explore_ordered.specs.Notes.{bytes_of_notes}
use Rattle.gt_explore_ordered.specs.States.{completes, marks_of_orders}
use Rattle.gt_explore_ordered.proofs.space.OrderedSpace.marks.Given as goal

-- the marks so far, and then those of the precedences that are left, are all
abbrev pub invariant-loop-number : goal.invariant-loop-number
invariant-loop-number l =
    l.marks.items ++ bytes_of_notes (marks_of_orders (completes l.state l.turn) l.number (drop l.number l.self.orders.now))
    ≡ bytes_of_notes (marks_of_orders (completes l.state l.turn) 0 l.self.orders.now)
