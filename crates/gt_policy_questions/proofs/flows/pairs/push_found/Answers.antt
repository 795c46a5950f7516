use Rattle.std.proofs.Common.{ap, sym}
use Rattle.gt_flow.specs.Accesses.{is_among}
use Rattle.gt_policy_questions.specs.FlowPairs.{steps_text}
use Rattle.gt_policy_questions.proofs.Growing.{grows-as, grows-none}
use Rattle.gt_policy_questions.proofs.Lined.{found}
use Rattle.gt_policy_questions.proofs.flows.pairs.push_found.Goals as goal

pub returns-in-Steps : goal.returns-in-Steps
returns-in-Steps g c =
    let read = c.args.read.now in
    let may = g.P.Allows.may read.policy.now in
    let trusted = is_among read.trusted.now in
    found read.format may trusted read.statements.now read.members.now c.args.form c.args.source c.args.target
    c.args.path.now c.args.out.now c.push_parts.new.out c.push_path.new.out c.push_parts.ensures
    (grows-as c.push_parts.new.out c.push_path.new.out _ _
    (sym (ap (λ form. steps_text read.format may trusted read.statements.now read.members.now form c.args.source
    c.args.path.now) c.in-Steps.is)) c.push_path.ensures)

pub returns-in-Pairs : goal.returns-in-Pairs
returns-in-Pairs g c =
    let read = c.args.read.now in
    let may = g.P.Allows.may read.policy.now in
    let trusted = is_among read.trusted.now in
    found read.format may trusted read.statements.now read.members.now c.args.form c.args.source c.args.target
    c.args.path.now c.args.out.now c.push_parts.new.out c.push_parts.new.out c.push_parts.ensures
    (grows-as c.push_parts.new.out c.push_parts.new.out _ _
    (sym (ap (λ form. steps_text read.format may trusted read.statements.now read.members.now form c.args.source
    c.args.path.now) c.in-Pairs.is)) (grows-none c.push_parts.new.out))

pub returns-in-Reached : goal.returns-in-Reached
returns-in-Reached g c =
    let read = c.args.read.now in
    let may = g.P.Allows.may read.policy.now in
    let trusted = is_among read.trusted.now in
    found read.format may trusted read.statements.now read.members.now c.args.form c.args.source c.args.target
    c.args.path.now c.args.out.now c.push_parts.new.out c.push_parts.new.out c.push_parts.ensures
    (grows-as c.push_parts.new.out c.push_parts.new.out _ _
    (sym (ap (λ form. steps_text read.format may trusted read.statements.now read.members.now form c.args.source
    c.args.path.now) c.in-Reached.is)) (grows-none c.push_parts.new.out))
