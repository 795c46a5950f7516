use Rattle.gt_handles.specs.Laws.{taken-counted}
use Rattle.gt_handles.proofs.handles.Handles.taken_is_counted.Goals as goal

pub returns : goal.returns
returns g c = taken-counted
