use Rattle.gt_entry.specs.Laws.{parts}
use Rattle.gt_entry.proofs.spelling.every_part_is_in_its_word.Goals as goal

pub returns : goal.returns
returns c = parts
