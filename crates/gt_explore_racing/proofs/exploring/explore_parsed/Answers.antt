use Rattle.gt_script.specs.RunContents.{run_contents}
use Rattle.gt_explore_racing.proofs.Explored.{explored_unmade}
use Rattle.gt_explore_racing.proofs.exploring.explore_parsed.Goals as goal

pub returns-in-Err : goal.returns-in-Err
returns-in-Err g c = explored_unmade (run_contents c.args.script.now) c.args.asked.now c.in-Err.fault _ c.in-Err.ensures
