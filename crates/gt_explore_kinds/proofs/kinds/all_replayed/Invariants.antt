use Rattle.std.proofs.Common.{◌≡◌, ◌++◌, All, map}
use Rattle.gt_script.specs.RunContents.{run_contents}
use Rattle.gt_explore_replay.specs.Orders.{MayGive}
use Rattle.gt_explore_kinds.specs.Kinds.{order_text}
use Rattle.gt_explore_kinds.specs.Marks.{all_operations, text_marks}
use Rattle.gt_explore_kinds.proofs.kinds.all_replayed.Given as goal

-- the marks of the texts so far, and then those of the orders that are left, are those of all orders
abbrev pub invariant-orders : goal.invariant-orders
invariant-orders l = record {
  possible : All (MayGive (run_contents l.script)) (map order_text l.texts.items);
  marks : map (text_marks (all_operations l.expressions)) (map order_text l.texts.items)
      ++ map order_text l.order-iterator.rest.items ≡ map order_text l.fn.orders.items;
}
