use Rattle.gt_handles.specs.Laws.{counted-most}
use Rattle.gt_handles.proofs.handles.Handles.no_more_pass_than_there_are.Goals as goal

pub returns : goal.returns
returns g c = counted-most
