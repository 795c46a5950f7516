use Rattle.gt_words.specs.Laws.{pins_alike}
use Rattle.gt_words.proofs.laws.pins_of_one_generation_have_one_record.Goals as goal

pub returns : goal.returns
returns c = pins_alike
