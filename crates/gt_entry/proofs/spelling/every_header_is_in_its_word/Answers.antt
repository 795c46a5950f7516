use Rattle.gt_entry.specs.Laws.{header-round}
use Rattle.gt_entry.proofs.spelling.every_header_is_in_its_word.Goals as goal

pub returns : goal.returns
returns c = header-round
