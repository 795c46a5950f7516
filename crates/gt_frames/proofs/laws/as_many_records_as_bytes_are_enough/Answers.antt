use Rattle.gt_frames.proofs.Enough.{enough}
use Rattle.gt_frames.proofs.laws.as_many_records_as_bytes_are_enough.Goals as goal

pub returns : goal.returns
returns c = enough
