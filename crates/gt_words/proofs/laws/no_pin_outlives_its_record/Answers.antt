use Rattle.gt_words.proofs.PinsGone.{none_outlives}
use Rattle.gt_words.proofs.laws.no_pin_outlives_its_record.Goals as goal

pub returns : goal.returns
returns c = none_outlives
