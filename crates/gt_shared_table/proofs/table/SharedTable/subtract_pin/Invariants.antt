use Rattle.gt_word_history.specs.Rule.{layout_of}
use Rattle.gt_word_history.specs.Steps.{unpinning}
use Rattle.gt_shared_table.proofs.table.SharedTable.subtract_pin.Given as goal

abbrev pub ghosts-subtract_from_word : goal.ghosts-subtract_from_word
ghosts-subtract_from_word a = record { kind = unpinning (layout_of a.cells.now.key) a.entry.position a.entry.gref a.dir a.generation }
