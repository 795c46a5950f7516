use Rattle.gt_shared_table.specs.Rule.{places_of}
use Rattle.gt_shared_table.proofs.Facts.{returned_last}
use Rattle.gt_shared_table.proofs.accesses.return_source.Goals as goal

pub return_as_taken-requires-clause-allowed : goal.return_as_taken-requires-clause-allowed
return_as_taken-requires-clause-allowed c = let z = c.args.cells.now.table_id in
    returned_last (places_of c.args.cells.now.key) z.slots c.exchange.new.seat.id z c.args.slot c.args.frame c.args.seat.now.me c.exchange.new.seat.me c.requires.mine.1 c.requires.held.1 c.exchange.ensures.3
