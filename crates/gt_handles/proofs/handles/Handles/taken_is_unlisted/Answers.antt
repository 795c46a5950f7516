use Rattle.gt_handles.specs.Laws.{taken-listed}
use Rattle.gt_handles.proofs.handles.Handles.taken_is_unlisted.Goals as goal

pub returns : goal.returns
returns g c = taken-listed
