use Rattle.gt_frames.proofs.Covered.{left-out}
use Rattle.gt_frames.proofs.laws.a_covered_record_shows_no_byte.Goals as goal

pub returns : goal.returns
returns c = left-out
