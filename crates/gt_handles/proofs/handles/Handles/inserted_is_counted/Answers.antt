use Rattle.gt_handles.specs.Laws.{inserted-counted}
use Rattle.gt_handles.proofs.handles.Handles.inserted_is_counted.Goals as goal

pub returns : goal.returns
returns g c = inserted-counted
