use Rattle.gt_script.specs.RunContents.{run_contents}
use Rattle.gt_explore_racing.proofs.Shown.{unshown}
use Rattle.gt_explore_racing.proofs.making.race_script.Goals as goal

pub returns-in-Some : goal.returns-in-Some
returns-in-Some c = unshown (run_contents c.args.script.now) c.args.race c.args.comment.now c.without_script.result c.without_script.ensures
