use Rattle.gt_entry.specs.Laws.{digits}
use Rattle.gt_entry.proofs.spelling.every_word_has_its_own_parts.Goals as goal

pub returns : goal.returns
returns c = digits
