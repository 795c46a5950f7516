use Rattle.gt_word_history.proofs.Moments.{one_history}
use Rattle.gt_words.proofs.laws.every_history_follows_from_the_views.Goals as goal

pub returns : goal.returns
returns c = one_history
