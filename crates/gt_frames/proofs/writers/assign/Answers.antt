use Rattle.std.proofs.Common.{◌≡◌, ◌∙◌, ℕ, List, ap, arith, sym, refl, replicate}
use Rattle.gt_model.specs.Written.{overlay}
use Rattle.gt_frames.specs.declared.writers.Stretch.{Stretch}
use Rattle.gt_frames.specs.Writers.{numbers_of}
use Rattle.gt_frames.proofs.Stretches.{covered, grown}
use Rattle.gt_frames.proofs.writers.assign.Goals.{then-end-off, else-end-off}
use Rattle.gt_frames.proofs.writers.assign.Goals as goal

pub returns-then-off-end-clause-numbers : goal.returns-then-off-end-clause-numbers
returns-then-off-end-clause-numbers c = elim c.if-end-off.branch [
  | then-end-off w ↦
      ap (λ (t : Stretch). numbers_of c.args.below.now.items t) w.latest-is
      ∙ grown c.args.below.now.items c.args.latest.now c.args.off c.args.len c.args.number c.requires.lies c.requires.range
      _ refl (sym c.if-number-latest.true) (sym c.if-number-latest.true) c.if-latest-off.true c.if-off-end.true
      (omega arith) (omega arith) (omega arith) (λ at lt le. absurd (omega (arith, lt, le)))
  | else-end-off w ↦
      ap (λ (t : Stretch). numbers_of c.args.below.now.items t) w.latest-is
      ∙ grown c.args.below.now.items c.args.latest.now c.args.off c.args.len c.args.number c.requires.lies c.requires.range
      c.args.latest.now refl (sym c.if-number-latest.true) (sym c.if-number-latest.true) c.if-latest-off.true c.if-off-end.true
      (omega arith) w.if-end-off.false c.requires.lies (λ at lt le. lt)
]

pub returns-then-off-latest-clause-numbers : goal.returns-then-off-latest-clause-numbers
returns-then-off-latest-clause-numbers c =
    let laid : numbers_of c.flush.new.below.items (record { off = c.args.off; len = c.args.len; number = c.args.number }) ≡ overlay c.flush.new.below.items c.args.off (replicate c.args.len c.args.number) = unfold numbers_of in refl in
    laid ∙ ap (λ (xs : List ℕ). overlay xs c.args.off (replicate c.args.len c.args.number)) c.flush.ensures.below

pub returns-else-end-off-2-clause-numbers : goal.returns-else-end-off-2-clause-numbers
returns-else-end-off-2-clause-numbers c =
    covered c.args.below.now.items c.args.latest.now c.args.off c.args.len c.args.number c.requires.lies c.requires.range _ refl refl refl (omega arith) (omega arith)
