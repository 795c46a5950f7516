use Rattle.gt_word_history.specs.Rule.{layout_of}
use Rattle.gt_word_history.specs.Steps.{exchanging}
use Rattle.gt_shared_table.proofs.table.SharedTable.exchange.Given as goal

abbrev pub ghosts-exchange_word : goal.ghosts-exchange_word
ghosts-exchange_word a = record { kind = exchanging (layout_of a.cells.now.key) a.entry.position a.entry.gref a.seat.now.me.0.own.own a.purpose a.old a.new }
