use Rattle.gt_core.proofs.Pins.{subject-alike}
use Rattle.gt_core.proofs.laws.every_known_handle_has_one_subject.Goals as goal

pub returns : goal.returns
returns c s g h dom a b alike same j k = subject-alike s g h dom a b alike same j k
