use Rattle.gt_allow.specs.Looking.{looks_up}
use Rattle.gt_policy_questions.proofs.Meaning.{pairs-of}
use Rattle.gt_policy_questions.proofs.asking.pairs.Goals as goal

pub returns-in-Ok-answered-clause-ok : goal.returns-in-Ok-answered-clause-ok
returns-in-Ok-answered-clause-ok c =
    let read = c.in_ok-policy.ensures.ok in
    pairs-of (looks_up c.in-Ok.table) c.in_ok-policy.policy c.in-Ok.ensures c.count.result c.count.ensures
    c.args.text.now read.0 c.as_slice.result.now c.in_ok-statements.statements c.args.question.now
    c.in-Ok-answered.report read.1 read.2 c.in_ok-statements.ensures.ok c.as_slice.ensures c.in-Ok-answered.ensures
