use Rattle.std.proofs.Common.{◌≡◌, ◌+◌, drop, map}
use Rattle.gt_explore_verdict.specs.Forms.{fits_from}
use Rattle.gt_explore_verdict.proofs.forms.fits_after_first.Given as goal

abbrev pub invariant-words : goal.invariant-words
invariant-words l = record {
  at : l.at ≡ l.word-index + 1;
  left : fits_from l.form 1 (map (λ w. w.now) l.words)
      ≡ fits_from l.form l.at (map (λ w. w.now) (drop l.word-index l.words));
}
