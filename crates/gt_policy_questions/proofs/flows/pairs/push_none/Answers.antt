use Rattle.std.proofs.Common.{ap}
use Rattle.gt_flow.specs.Accesses.{is_among}
use Rattle.gt_policy_questions.specs.FlowPairs.{none_text}
use Rattle.gt_policy_questions.proofs.Lined.{missed}
use Rattle.gt_policy_questions.proofs.flows.pairs.push_none.Goals as goal

pub returns-in-Steps : goal.returns-in-Steps
returns-in-Steps g c =
    let read = c.args.read.now in
    let may = g.P.Allows.may read.policy.now in
    let trusted = is_among read.trusted.now in
    missed read.format may trusted read.statements.now read.members.now c.args.form c.args.source c.args.target
    c.args.out.now c.push_parts.new.out
    (ap (λ form. none_text read.format may trusted read.statements.now read.members.now form c.args.source c.args.target)
    c.in-Steps.is) c.push_parts.ensures

pub returns-in-Pairs : goal.returns-in-Pairs
returns-in-Pairs g c =
    let read = c.args.read.now in
    let may = g.P.Allows.may read.policy.now in
    let trusted = is_among read.trusted.now in
    missed read.format may trusted read.statements.now read.members.now c.args.form c.args.source c.args.target
    c.args.out.now c.push_parts-in-Pairs.new.out
    (ap (λ form. none_text read.format may trusted read.statements.now read.members.now form c.args.source c.args.target)
    c.in-Pairs.is) c.push_parts-in-Pairs.ensures
