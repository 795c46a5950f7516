use Rattle.gt_word_history.specs.Rule.{layout_of}
use Rattle.gt_word_history.specs.Steps.{storing}
use Rattle.gt_shared_table.proofs.table.SharedTable.store_body.Given as goal

abbrev pub ghosts-store_body_word : goal.ghosts-store_body_word
ghosts-store_body_word a = record { kind = storing (layout_of a.cells.now.key) a.entry.position a.entry.gref a.body_word a.new }
