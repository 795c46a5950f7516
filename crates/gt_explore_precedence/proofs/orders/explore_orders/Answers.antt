use Rattle.std.proofs.Common.{◌∙◌}
use Rattle.gt_script.specs.RunContents.{run_contents}
use Rattle.gt_explore_precedence.proofs.OrdersAnswered.{orders_read, orders_unread}
use Rattle.gt_explore_precedence.proofs.orders.explore_orders.Goals as goal

pub write_orders-requires-clause-orderly : goal.write_orders-requires-clause-orderly
write_orders-requires-clause-orderly g c = c.parsed_scripts_are_orderly.ensures _ c.in-Ok.script c.in-Ok.ensures.script

pub returns-in-Ok : goal.returns-in-Ok
returns-in-Ok g c = λ all e.
    orders_read all c.args.source.now e c.args.asked.now (run_contents c.in-Ok.script) _ _ c.write_orders.result (c.in-Ok.ensures.beginning all (c.as_bytes.ensures.value ∙ e)) c.write_orders.ensures

pub returns-in-Err : goal.returns-in-Err
returns-in-Err g c = λ all e.
    orders_unread all c.args.source.now e c.args.asked.now c.in-Err.error c.from.result _ (c.in-Err.ensures.beginning all (c.as_bytes.ensures.value ∙ e)) c.from.ensures
