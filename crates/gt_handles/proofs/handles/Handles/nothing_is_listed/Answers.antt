use Rattle.gt_handles.specs.Laws.{nothing-listed}
use Rattle.gt_handles.proofs.handles.Handles.nothing_is_listed.Goals as goal

pub returns : goal.returns
returns g c = nothing-listed
