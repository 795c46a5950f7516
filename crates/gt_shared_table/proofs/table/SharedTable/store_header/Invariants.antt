use Rattle.gt_word_history.specs.Rule.{layout_of}
use Rattle.gt_word_history.specs.Steps.{storing_header}
use Rattle.gt_shared_table.proofs.table.SharedTable.store_header.Given as goal

abbrev pub ghosts-store_header_word : goal.ghosts-store_header_word
ghosts-store_header_word a = record { kind = storing_header (layout_of a.cells.now.key) a.at a.new }
