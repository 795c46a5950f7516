use Rattle.std.proofs.Common.{◌≡◌, ◌+◌, ◌<◌, ℕ, true, map}
use Rattle.gt_fault_reasons.specs.Fitting.{fits_example}
use Rattle.gt_fault_reasons.proofs.misfit.fitting.Given as goal

abbrev pub invariant-counts : goal.invariant-counts
invariant-counts l = (k : ℕ) → k < l.count → fits_example (map (λ w. w.now) l.words) (map (λ w. w.now) l.example) (k + 1) ≡ true
