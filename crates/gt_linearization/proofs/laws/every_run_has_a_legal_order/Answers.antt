use Rattle.gt_linearization.proofs.Order.{runs-have-legal-orders}
use Rattle.gt_linearization.proofs.laws.every_run_has_a_legal_order.Goals as goal

pub returns : goal.returns
returns c = runs-have-legal-orders
