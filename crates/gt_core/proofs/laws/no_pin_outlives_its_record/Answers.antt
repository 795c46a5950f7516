use Rattle.gt_core.proofs.TakenBack.{taken-since}
use Rattle.gt_core.proofs.laws.no_pin_outlives_its_record.Goals as goal

pub returns : goal.returns
returns c s later before i t r legal ends = taken-since s later before i t r legal ends
