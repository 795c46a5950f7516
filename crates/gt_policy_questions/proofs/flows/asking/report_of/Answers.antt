use Rattle.std.proofs.Common.{◌∙◌, IfOk, List, option_map, subst}
use Rattle.gt_types.specs.declared.TypeId.{TypeId}
use Rattle.gt_flow.specs.Accesses.{is_among}
use Rattle.gt_policy_questions.specs.Pairs.{types_asked_of}
use Rattle.gt_policy_questions.specs.Asking.{ReportsFor}
use Rattle.gt_policy_questions.specs.declared.flows.asking.FlowReport.{FlowReport}
use Rattle.gt_policy_questions.proofs.flows.asking.report_of.Goals as goal

pub returns : goal.returns
returns g c =
    let read = c.args.read.now in
    let may = g.P.Allows.may read.policy.now in
    let trusted = is_among read.trusted.now in
    subst (λ (l : List TypeId). IfOk c.answered.result (λ (report : FlowReport).
    ReportsFor read.format may trusted read.statements.now read.members.now c.args.question.now l
    (types_asked_of read.members.now (option_map (λ a. a.now) c.args.question.now.target) read.count) report))
    (c.as_slice.ensures.value ∙ c.in_ok-sources.ensures)
    (subst (λ (l : List TypeId). IfOk c.answered.result (λ (report : FlowReport).
    ReportsFor read.format may trusted read.statements.now read.members.now c.args.question.now c.as_slice.result.now l report))
    (c.as_slice-2.ensures.value ∙ c.in_ok-targets.ensures) c.answered.ensures)
