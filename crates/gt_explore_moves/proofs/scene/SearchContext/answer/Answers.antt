use Rattle.std.proofs.Common.{refl, sym, subst}
use Rattle.gt_model.specs.declared.action.Step.{Step}
use Rattle.gt_model.specs.declared.action.CallResult.{CallResult}
use Rattle.gt_model.specs.declared.action.CallResult.TheVariants.{Granted}
use Rattle.gt_model.specs.declared.trace.Answer.TheVariants as answers
use Rattle.gt_model.specs.declared.trace.Bytes.{Bytes}
use Rattle.gt_explore_moves.specs.Ticking.{ReadsInFrame, AnswersEnd}
use Rattle.gt_explore_moves.proofs.scene.SearchContext.answer.Goals as goal

pub returns-in_ok-bytes-in-Granted-Read : goal.returns-in_ok-bytes-in-Granted-Read
returns-in_ok-bytes-in-Granted-Read c = λ h shows fits. let r = c.in-Granted-Read in
    let b : Bytes = record { bytes = c.in_ok-bytes-in-Granted-Read.bytes } in
    subst (λ (v : CallResult). AnswersEnd h c.args.last v (answers.Bytes b)) (sym r.is-0)
    (subst (λ (y : Step). AnswersEnd h y Granted (answers.Bytes b)) (sym r.is-1)
    (b, refl, c.in_ok-bytes-in-Granted-Read.ensures h shows (subst ReadsInFrame r.is-1 fits)))
