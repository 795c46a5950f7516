use Rattle.std.proofs.Common.{◌∙◌, arith, sym}
use Rattle.gt_frames.proofs.Stretches.{count_used_more, count_used_same, used_within}
use Rattle.gt_frames.proofs.writers.count.Goals.{then-used-at, else-used-at}
use Rattle.gt_frames.proofs.writers.count.Goals as goal

pub overflow_add-count : goal.overflow_add-count
overflow_add-count c = let most = used_within c.args.used.now c.places.at in grind (arith, most, c.places.invariant)

pub places-preserved : goal.places-preserved
places-preserved c = elim c.if-used-at.branch [
  | then-used-at w ↦ omega (arith, w.count-is, c.places.invariant, count_used_more c.args.used.now c.places.at c.places-test.true w.if-used-at.true)
  | else-used-at w ↦ w.count-is ∙ c.places.invariant ∙ sym (count_used_same c.args.used.now c.places.at c.places-test.true w.if-used-at.false)
]
