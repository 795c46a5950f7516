use Rattle.std.proofs.Common.{subst, sym}
use Rattle.gt_word_history.specs.History.{Layout}
use Rattle.gt_word_history.specs.Moves.{MayTake}
use Rattle.gt_word_history.specs.Rule.{header_place}
use Rattle.gt_word_history.specs.Steps.{storing_header}
use Rattle.gt_word_history.specs.declared.view.View.{View}
use Rattle.gt_shared_table.proofs.table.SharedTable.store_header.Goals as goal

pub store_header_word-requires-clause-may : goal.store_header_word-requires-clause-may
store_header_word-requires-clause-may c = let a = c.args in
    subst (λ (q : Layout × View). MayTake (storing_header q.0 a.at a.word) (header_place a.at) q.1) (λ i. ((sym c.self.view_is i).layout, (sym c.seat.view_is i).view)) c.requires.may
