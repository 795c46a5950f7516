use Rattle.gt_words.proofs.Seeing.{saw_listed}
use Rattle.gt_words.proofs.laws.what_was_seen_is_listed.Goals as goal

pub returns : goal.returns
returns c = saw_listed
