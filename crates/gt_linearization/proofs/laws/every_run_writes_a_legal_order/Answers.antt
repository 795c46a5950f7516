use Rattle.gt_linearization.proofs.Listed.{runs-legal}
use Rattle.gt_linearization.proofs.laws.every_run_writes_a_legal_order.Goals as goal

pub returns : goal.returns
returns g c = runs-legal g.P.Allows.may c.args.monitor.now
