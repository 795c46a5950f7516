use Rattle.gt_explore_answers.proofs.answering.script_of.Goals as goal

pub returns : goal.returns
returns c = c.script_after.ensures
