use Rattle.std.proofs.Common.{◌≡◌, ◌++◌, drop, map}
use Rattle.gt_explore_answers.specs.Texts.{texts_of_orders}
use Rattle.gt_explore_summary.specs.Columns.{filled_lines, split_lines}
use Rattle.gt_explore_summary.proofs.summing.lines_of_texts.Given as goal

-- the lines of the texts so far, and then those of the texts that are left, are all
abbrev pub invariant-orders : goal.invariant-orders
invariant-orders l =
    map filled_lines l.texts.items ++ map split_lines (texts_of_orders (drop l.order-index l.orders))
    ≡ map split_lines (texts_of_orders l.orders)
