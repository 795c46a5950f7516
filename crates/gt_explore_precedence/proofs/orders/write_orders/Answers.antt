use Rattle.std.specs.Str.Lines.{lines as lines_in}
use Rattle.gt_script.specs.RunContents.{run_contents}
use Rattle.gt_explore_precedence.proofs.OrdersAnswered.{cut_off}
use Rattle.gt_explore_precedence.proofs.orders.write_orders.Goals as goal

pub returns : goal.returns
returns g c =
    cut_off (run_contents c.args.script.now) (lines_in c.args.source.now) c.args.asked.now c.in-Ok.made.text.items c.as_slice.result.now c.in-Ok.made.verdict _ _ c.in-Ok.ensures c.as_slice.ensures.value
    c.write_text.ensures.beginning
