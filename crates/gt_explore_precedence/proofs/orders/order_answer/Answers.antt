use Rattle.std.specs.Str.Lines.{lines as lines_in}
use Rattle.gt_script.specs.RunContents.{run_contents}
use Rattle.gt_explore_precedence.proofs.OrdersAnswered.{answered}
use Rattle.gt_explore_precedence.proofs.orders.order_answer.Goals as goal

pub returns : goal.returns
returns g c =
    answered (run_contents c.args.script.now) (lines_in c.args.source.now) c.args.asked.now c.args.pairs.now c.as_bytes.result.now c.as_bytes.ensures.value c.in_ok-judged.judged c.shown_as.result
    c.in_ok-judged.ensures c.shown_as.ensures
