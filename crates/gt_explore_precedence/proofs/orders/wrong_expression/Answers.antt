use Rattle.std.specs.Str.Lines.{lines as lines_in}
use Rattle.gt_script.specs.RunContents.{run_contents}
use Rattle.gt_explore_precedence.proofs.OrdersAnswered.{repeated_wrong}
use Rattle.gt_explore_precedence.proofs.orders.wrong_expression.Goals as goal

pub returns-in-Err-Repeated : goal.returns-in-Err-Repeated
returns-in-Err-Repeated c = repeated_wrong (run_contents c.args.script.now) (lines_in c.args.source.now) c.args.asked.now.expression.now _ _
