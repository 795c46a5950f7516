use Rattle.gt_linearization.proofs.Listed.{texts-legal}
use Rattle.gt_linearization.proofs.laws.every_text_is_of_a_legal_order.Goals as goal

pub returns : goal.returns
returns g c = texts-legal g.P.Allows.may c.args.monitor.now
