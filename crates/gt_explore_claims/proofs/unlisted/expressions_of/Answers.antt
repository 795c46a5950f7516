use Rattle.std.proofs.Common.{map, subst}
use Rattle.gt_script.specs.RunContents.{run_contents}
use Rattle.gt_explore_answers.specs.Exploring.{AreConditions}
use Rattle.gt_explore_verdict.specs.Formulas.{operation_asked}
use Rattle.gt_explore_claims.specs.declared.deciding.NumberedClaim.{NumberedClaim}
use Rattle.gt_explore_claims.proofs.Unshown.{formulas_more}
use Rattle.gt_explore_claims.proofs.unlisted.expressions_of.Goals as goal

pub claims-preserved : goal.claims-preserved
claims-preserved c =
    let d = run_contents c.args.script.now in let x = c.in_ok-conditions.conditions in
    formulas_more d c.args.claims.now c.claims.all.items x c.push.new.self.items c.claims.named-index c.named-item.result c.claims-test.true c.in_ok-push.ensures.items
    (subst (λ (n : NumberedClaim). AreConditions d n.numbered.items (map operation_asked x.items)) c.named-item.is c.in_ok-conditions.ensures) c.claims.invariant
