use Rattle.gt_words.proofs.HistorySteps.{each_happened}
use Rattle.gt_words.proofs.laws.every_step_of_a_history_happened.Goals as goal

pub returns : goal.returns
returns c = each_happened
