use Rattle.gt_word_history.specs.Rule.{layout_of}
use Rattle.gt_shared_table.proofs.table.SharedTable.pass_flag.Given as goal

abbrev pub ghosts-load_word : goal.ghosts-load_word
ghosts-load_word a = record { layout = layout_of a.cells.now.key; flag = a.flag }
