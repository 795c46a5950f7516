use Rattle.gt_word_history.specs.Rule.{layout_of}
use Rattle.gt_word_history.specs.Steps.{looking}
use Rattle.gt_shared_table.proofs.table.SharedTable.learn_of_all.Given as goal

abbrev pub ghosts-learn_all : goal.ghosts-learn_all
ghosts-learn_all a = record { kind = looking (layout_of a.cells.now.key) 0 0 }
