use Rattle.std.proofs.Common.{map, take}
use Rattle.gt_fault_reasons.specs.Fitting.{example_of, FitMost}
use Rattle.gt_fault_reasons.proofs.syntax.most_fitting.Given as goal

abbrev pub invariant-forms : goal.invariant-forms
invariant-forms l = FitMost (map example_of (map (λ f. f.now) (take l.form-index l.forms))) (map (λ w. w.now) l.words) l.most
