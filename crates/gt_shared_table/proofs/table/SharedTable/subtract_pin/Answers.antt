use Rattle.std.proofs.Common.{subst, sym}
use Rattle.gt_word_history.specs.History.{Layout}
use Rattle.gt_word_history.specs.Moves.{MayTake}
use Rattle.gt_word_history.specs.Rule.{place}
use Rattle.gt_word_history.specs.Steps.{unpinning}
use Rattle.gt_word_history.specs.declared.view.View.{View}
use Rattle.gt_shared_table.proofs.table.SharedTable.subtract_pin.Goals as goal

pub subtract_from_word-requires-clause-may : goal.subtract_from_word-requires-clause-may
subtract_from_word-requires-clause-may c = let a = c.args in
    subst (λ (q : Layout × View). MayTake (unpinning q.0 a.entry.position a.entry.gref a.dir a.generation) (place a.entry.position a.entry.gref 0) q.1) (λ i. ((sym c.self.view_is i).layout, (sym c.seat.view_is i).view)) c.requires.may
