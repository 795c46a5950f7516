use Rattle.gt_word_history.proofs.Moments.{taken_then}
use Rattle.gt_words.proofs.laws.every_step_is_taken_then.Goals as goal

pub returns : goal.returns
returns c = taken_then
