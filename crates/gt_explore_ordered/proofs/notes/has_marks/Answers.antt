use Rattle.std.proofs.Common.{Bool, Some, ap, below_more, false, sym, ◌∙◌}
use Rattle.std.proofs.lemmas.Option.{slice_get-get_or}
use Rattle.gt_explore_ordered.proofs.NotesRead.{same-bools}
use Rattle.gt_explore_ordered.proofs.notes.has_marks.Goals as goal

pub loop-number-preserved : goal.loop-number-preserved
loop-number-preserved c =
    below_more _ _ c.loop-number.invariant
    (slice_get-get_or c.args.held.now c.loop-number.number false c.loop-number-test.true ∙ ap (λ (b : Bool). Some b) (sym (same-bools _ _ c.if-has_mark-holds.false) ∙ c.has_mark.ensures))
