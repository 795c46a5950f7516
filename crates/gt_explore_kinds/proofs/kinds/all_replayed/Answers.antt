use Rattle.gt_script.specs.RunContents.{run_contents}
use Rattle.gt_explore_replay.specs.Orders.{MayGive}
use Rattle.gt_explore_kinds.specs.Marks.{all_operations, text_marks}
use Rattle.gt_explore_kinds.proofs.Replaying.{marks_pushed, possible_pushed}
use Rattle.gt_explore_kinds.proofs.kinds.all_replayed.Goals as goal

pub orders-preserved : goal.orders-preserved
orders-preserved c = record {
  possible = possible_pushed (MayGive (run_contents c.args.script.now)) c.orders.texts.items c.in_ok-made.made c.push.new.self.items c.in_ok-push.ensures.items c.orders.invariant.possible c.in_ok-made.ensures.possible;
  marks = marks_pushed (text_marks (all_operations c.args.expressions.now)) c.orders.texts.items c.in_ok-made.made c.push.new.self.items c.in_ok-push.ensures.items c.in-Some.order _ c.next.new.self.rest.items _ c.in-Some.ensures.steps.0 c.in_ok-made.ensures.marks c.orders.invariant.marks;
}
