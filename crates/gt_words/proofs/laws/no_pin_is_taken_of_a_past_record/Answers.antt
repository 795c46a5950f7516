use Rattle.gt_words.proofs.Past.{past_pins}
use Rattle.gt_words.proofs.laws.no_pin_is_taken_of_a_past_record.Goals as goal

pub returns : goal.returns
returns c = past_pins
