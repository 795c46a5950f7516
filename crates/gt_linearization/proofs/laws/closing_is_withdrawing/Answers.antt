use Rattle.gt_linearization.proofs.Closing.{closing-made, resetting-made, status-made}
use Rattle.gt_linearization.proofs.laws.closing_is_withdrawing.Goals as goal

pub returns : goal.returns
returns g c = record { closes = closing-made _ _; resets = resetting-made _ _; looks = status-made _ _ }
