use Rattle.std.proofs.Common.{sym, ◌∙◌}
use Rattle.gt_neverflow.specs.Flowing.{types_numbered}
use Rattle.gt_neverflow.proofs.FlowingLemmas.{is-about, is-of-others}
use Rattle.gt_findings.proofs.ReportLemmas.{on_ok}
use Rattle.gt_neverflow.proofs.flowing.push_flows_by.Goals as goal

pub returns-then-flow_from : goal.returns-then-flow_from
returns-then-flow_from g c = on_ok c.push_flows_to.result
    (is-about (g.P.Allows.may c.args.source.now.policy.now) c.args.source.now.members.now
    (types_numbered c.args.source.now.count)
    c.args.source.now.id c.args.never.now c.args.found.now.items c.push_flows_to.new.found.items
    (sym c.flow_from.ensures ∙ c.if-flow_from.true)) c.push_flows_to.ensures

pub returns-else-flow_from : goal.returns-else-flow_from
returns-else-flow_from g c = is-of-others (g.P.Allows.may c.args.source.now.policy.now) c.args.source.now.members.now
    (types_numbered c.args.source.now.count) c.args.source.now.id c.args.never.now c.args.found.now.items
    (sym c.flow_from.ensures ∙ c.if-flow_from.false)
