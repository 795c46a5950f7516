use Rattle.std.proofs.Common.{subst, sym}
use Rattle.gt_word_history.specs.History.{Layout}
use Rattle.gt_word_history.specs.Moves.{MayTake}
use Rattle.gt_word_history.specs.Rule.{place}
use Rattle.gt_word_history.specs.Steps.{exchanging}
use Rattle.gt_word_history.specs.declared.view.View.{View}
use Rattle.gt_shared_table.proofs.table.SharedTable.exchange.Goals as goal

pub exchange_word-requires-clause-may : goal.exchange_word-requires-clause-may
exchange_word-requires-clause-may c = let a = c.args in
    subst (λ (q : Layout × View). MayTake (exchanging q.0 a.entry.position a.entry.gref q.1 a.purpose a.old a.new) (place a.entry.position a.entry.gref 0) q.1) (λ i. ((sym c.self.view_is i).layout, (sym c.seat.view_is i).view)) c.requires.may
