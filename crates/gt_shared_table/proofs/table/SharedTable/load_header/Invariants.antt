use Rattle.gt_word_history.specs.Rule.{layout_of}
use Rattle.gt_word_history.specs.Steps.{looking_at_header}
use Rattle.gt_shared_table.proofs.table.SharedTable.load_header.Given as goal

abbrev pub ghosts-load_header_word : goal.ghosts-load_header_word
ghosts-load_header_word a = record { kind = looking_at_header (layout_of a.cells.now.key) a.at }
