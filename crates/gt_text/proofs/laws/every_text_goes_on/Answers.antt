use Rattle.gt_text.specs.Laws.{appends_both, begins_after, begins_longer}
use Rattle.gt_text.proofs.laws.every_text_goes_on.Goals as goal

pub returns-clause-both : goal.returns-clause-both
returns-clause-both c = appends_both

pub returns-clause-begins : goal.returns-clause-begins
returns-clause-begins c = begins_after

pub returns-clause-longer : goal.returns-clause-longer
returns-clause-longer c = begins_longer
