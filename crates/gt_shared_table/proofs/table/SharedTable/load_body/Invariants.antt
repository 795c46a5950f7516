use Rattle.gt_word_history.specs.Rule.{layout_of}
use Rattle.gt_word_history.specs.Steps.{reading}
use Rattle.gt_shared_table.proofs.table.SharedTable.load_body.Given as goal

abbrev pub ghosts-load_body_word : goal.ghosts-load_body_word
ghosts-load_body_word a = record { kind = reading (layout_of a.cells.now.key) a.entry.position a.entry.gref a.body_word }
