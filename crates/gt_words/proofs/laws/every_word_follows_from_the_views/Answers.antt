use Rattle.gt_words.proofs.Past.{words_follow}
use Rattle.gt_words.proofs.laws.every_word_follows_from_the_views.Goals as goal

pub returns : goal.returns
returns c = words_follow
