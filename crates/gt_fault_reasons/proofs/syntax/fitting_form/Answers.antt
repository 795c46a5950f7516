use Rattle.std.proofs.Common.{map, ap, ◌∙◌}
use Rattle.std.proofs.lemmas.Result.{IfOk-weaker}
use Rattle.gt_fault_reasons.proofs.FittingLemmas.{of_form}
use Rattle.gt_fault_reasons.proofs.syntax.fitting_form.Goals as goal

pub returns : goal.returns
returns c =
    IfOk-weaker c.fitting.result _ _
    (λ n. of_form (map (λ w. w.now) c.args.words.now) (map (λ w. w.now) c.as_slice-2.result.now) c.args.form.now (map (λ w. w.now) c.as_slice.result.now) n
    (ap (map (λ w. w.now)) c.as_slice.ensures.value ∙ c.in_ok-form.ensures)
    (ap (map (λ w. w.now)) c.as_slice-2.ensures.value ∙ c.in_ok-example.ensures)) c.fitting.ensures
