use Rattle.std.proofs.Common.{◌∙◌, ap, subst, Some}
use Rattle.std.proofs.lemmas.Result.{on_ok_weaker}
use Rattle.gt_explore_state.specs.Rows.{RowsBecome, kept_entry, kept_generation}
use Rattle.gt_explore_state.proofs.OwnRows.{own-becomes}
use Rattle.gt_explore_state.proofs.rows.change_own.Goals as goal

pub returns : goal.returns
returns c =
    let at = c.args.gref.0 in let old = c.args.own.now.items in let new = c.set_row.new.rows.items in
    on_ok_weaker c.set_row.result (λ each. own-becomes c.args.first_gen at old new c.args.change c.owner_entry_at.result
    (c.owner_entry_at.ensures.entry ∙ ap (λ l. kept_entry l at) c.as_slice.ensures.value)
    (c.owner_entry_at.ensures.generation ∙ ap (λ l. kept_generation c.args.first_gen l at) c.as_slice.ensures.value)
    (subst (λ o. RowsBecome old new at (Some o)) c.after-changed.ensures each)) c.set_row.ensures
