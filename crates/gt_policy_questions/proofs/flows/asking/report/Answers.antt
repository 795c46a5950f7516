use Rattle.gt_policy_questions.proofs.Reported.{all-trusted}
use Rattle.gt_policy_questions.proofs.flows.asking.report.Goals as goal

pub returns : goal.returns
returns g c =
    all-trusted (g.P.Allows.may c.args.policy.now) c.args.count c.args.statements.now c.args.question.now
    c.as_slice-members.result.now c.in_ok-types.types.items c.in_ok-names.names.items c.as_slice.result.now
    c.new-trusted.result.items c.push_trusted.new.trusted.items c.as_slice-2.result.now c.in_ok-unknown.unknown c.report_of.result
    c.as_slice-members.ensures.value c.in_ok-types.ensures c.in_ok-names.ensures c.as_slice.ensures.value
    c.new-trusted.ensures.items c.in_ok-unknown.ensures c.in_default.is c.as_slice-2.ensures.value c.report_of.ensures
