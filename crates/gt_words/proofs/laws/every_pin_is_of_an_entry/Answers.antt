use Rattle.gt_words.specs.Laws.{pin_entry}
use Rattle.gt_words.proofs.laws.every_pin_is_of_an_entry.Goals as goal

pub returns : goal.returns
returns c = pin_entry
