use Rattle.gt_word_history.specs.Rule.{layout_of}
use Rattle.gt_shared_table.proofs.table.SharedTable.raise_flag.Given as goal

abbrev pub ghosts-raise_word : goal.ghosts-raise_word
ghosts-raise_word a = record { layout = layout_of a.cells.now.key; flag = a.flag }
