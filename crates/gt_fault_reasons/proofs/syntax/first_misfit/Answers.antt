use Rattle.std.proofs.Common.{map}
use Rattle.std.proofs.lemmas.Result.{IfOk-weaker}
use Rattle.gt_fault_reasons.proofs.FittingLemmas.{misfit_of}
use Rattle.gt_fault_reasons.proofs.syntax.first_misfit.Goals as goal

pub returns : goal.returns
returns c = IfOk-weaker c.most_fitting.result _ _ (misfit_of (map (λ w. w.now) c.args.words.now)) c.most_fitting.ensures
