use Rattle.std.proofs.Common.{◌≡◌, arith, max}
use Rattle.gt_fault_reasons.proofs.FittingLemmas.{begun, fitted_next}
use Rattle.gt_fault_reasons.proofs.syntax.most_fitting.Goals as goal
use Rattle.gt_fault_reasons.proofs.syntax.most_fitting.Goals.{then-count-most, else-count-most}

pub forms-init : goal.forms-init
forms-init c = begun _

pub forms-preserved : goal.forms-preserved
forms-preserved c =
    let most : c.if-count-most.most ≡ max c.forms.most c.in_ok-count.count = elim c.if-count-most.branch [ then-count-most w ↦ omega arith | else-count-most w ↦ omega arith ] in
    fitted_next (λ f. f.now) c.args.forms.now c.forms.form-index _ _ c.forms.most c.in_ok-count.count c.if-count-most.most most c.forms-test.true c.forms.invariant c.in_ok-count.ensures
