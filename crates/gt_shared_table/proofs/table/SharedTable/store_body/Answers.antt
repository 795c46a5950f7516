use Rattle.std.proofs.Common.{subst, sym}
use Rattle.gt_word_history.specs.History.{Layout}
use Rattle.gt_word_history.specs.Moves.{MayTake}
use Rattle.gt_word_history.specs.Rule.{place}
use Rattle.gt_word_history.specs.Steps.{body_word_index, storing}
use Rattle.gt_word_history.specs.declared.view.View.{View}
use Rattle.gt_shared_table.proofs.table.SharedTable.store_body.Goals as goal

pub store_body_word-requires-clause-may : goal.store_body_word-requires-clause-may
store_body_word-requires-clause-may c = let a = c.args in
    subst (λ (q : Layout × View). MayTake (storing q.0 a.entry.position a.entry.gref a.body_word a.value) (place a.entry.position a.entry.gref (body_word_index a.body_word)) q.1) (λ i. ((sym c.self.view_is i).layout, (sym c.seat.view_is i).view)) c.requires.may
