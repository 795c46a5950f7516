use Rattle.gt_script.proofs.RunOne.{run-one}
use Rattle.gt_script.proofs.laws.every_text_has_one_run.Goals as goal

pub returns : goal.returns
returns c = run-one c.one_meaning.ensures
