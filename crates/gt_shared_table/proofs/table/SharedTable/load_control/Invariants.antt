use Rattle.gt_word_history.specs.Rule.{layout_of}
use Rattle.gt_word_history.specs.Steps.{looking}
use Rattle.gt_shared_table.proofs.table.SharedTable.load_control.Given as goal

abbrev pub ghosts-load_control_word : goal.ghosts-load_control_word
ghosts-load_control_word a = record { kind = looking (layout_of a.cells.now.key) a.entry.position a.entry.gref }
