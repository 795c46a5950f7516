use Rattle.gt_program.proofs.OneRun.{among-explored, among-traced}
use Rattle.gt_program.proofs.laws.every_run_is_among_the_explored.Goals as goal

pub returns-clause-explored : goal.returns-clause-explored
returns-clause-explored c = among-explored c.every_text_has_one_run.ensures

pub returns-clause-traced : goal.returns-clause-traced
returns-clause-traced c = among-traced c.every_text_has_one_run.ensures
