use Rattle.gt_entry.specs.Laws.{entry-word}
use Rattle.gt_entry.proofs.spelling.every_entry_has_its_word.Goals as goal

pub returns : goal.returns
returns c = entry-word
