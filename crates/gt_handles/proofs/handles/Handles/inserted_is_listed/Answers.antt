use Rattle.gt_handles.specs.Laws.{inserted-listed}
use Rattle.gt_handles.proofs.handles.Handles.inserted_is_listed.Goals as goal

pub returns : goal.returns
returns g c = inserted-listed
