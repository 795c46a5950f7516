use Rattle.gt_word_history.proofs.Moments.{allowed_says}
use Rattle.gt_words.proofs.laws.every_allowed_step_records_what_is_there.Goals as goal

pub returns : goal.returns
returns c = allowed_says
