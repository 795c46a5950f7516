use Rattle.gt_words.proofs.Past.{pins_left}
use Rattle.gt_words.proofs.laws.every_pin_left_is_counted.Goals as goal

pub returns : goal.returns
returns c = pins_left
