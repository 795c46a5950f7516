use Rattle.gt_entry.specs.Laws.{own-body, entry-read}
use Rattle.gt_entry.proofs.spelling.every_entry_is_in_its_words.Goals as goal

pub returns-clause-own : goal.returns-clause-own
returns-clause-own c = own-body

pub returns-clause-read : goal.returns-clause-read
returns-clause-read c = entry-read
