use Rattle.std.proofs.Common.{arith}
use Rattle.std.proofs.lemmas.Grind.{common_steps}
use Rattle.gt_state_claims.proofs.claims.choice_holds.Goals as goal

pub returns-then-not-term_holds : goal.returns-then-not-term_holds
returns-then-not-term_holds g c = λ view only.
    let i = c.terms.invariant view only in
    let h = c.term_holds.ensures view only in
    let t = c.if-not-term_holds.true in
    grind (arith, common_steps, i, h, t)

pub terms-preserved : goal.terms-preserved
terms-preserved g c = λ view only.
    let i = c.terms.invariant view only in
    let h = c.term_holds.ensures view only in
    let t = c.if-not-term_holds.false in
    grind (arith, common_steps, i, h, t)
