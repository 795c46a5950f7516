use Rattle.gt_core.proofs.Words.{sym, subst, CallerKnowledge}
use Rattle.gt_calls.specs.Following.{IsLeftAlike}
use Rattle.gt_core.proofs.kept.Machine.advance.Goals as goal

pub returns-clause-goes : goal.returns-clause-goes
returns-clause-goes g c = λ d here k alike.
    c.next-action.ensures.goes k
    (subst (λ (x : CallerKnowledge). IsLeftAlike k x c.args.last.call c.args.seen) (sym (c.known_at.ensures d here)) alike)
