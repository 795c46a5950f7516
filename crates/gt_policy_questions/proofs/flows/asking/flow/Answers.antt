use Rattle.gt_allow.specs.Looking.{looks_up}
use Rattle.gt_policy_questions.proofs.Meant.{among, flow-of}
use Rattle.gt_policy_questions.proofs.flows.asking.flow.Goals as goal

pub report-requires : goal.report-requires
report-requires c = among (looks_up c.in-Ok.table) c.in_ok-policy.policy c.in-Ok.ensures c.count.result c.count.ensures
    c.allows_among_its_types.ensures

pub returns-in-Ok-report-clause-ok : goal.returns-in-Ok-report-clause-ok
returns-in-Ok-report-clause-ok c =
    let read = c.in_ok-policy.ensures.ok in
    flow-of (looks_up c.in-Ok.table) c.in_ok-policy.policy c.in-Ok.ensures c.count.result c.count.ensures c.args.text.now
    read.0 c.as_slice.result.now c.in_ok-statements.statements c.args.question.now c.in-Ok-report.report read.1 read.2
    c.in_ok-statements.ensures.ok c.as_slice.ensures c.in-Ok-report.ensures
