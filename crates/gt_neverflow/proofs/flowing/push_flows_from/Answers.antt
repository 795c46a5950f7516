use Rattle.std.proofs.Common.{sym, ◌∙◌}
use Rattle.gt_neverflow.specs.Flowing.{types_numbered}
use Rattle.gt_neverflow.proofs.FlowingLemmas.{adds-no-flows}
use Rattle.gt_neverflow.proofs.flowing.push_flows_from.Goals as goal

pub returns-then-not-some_flow_from : goal.returns-then-not-some_flow_from
returns-then-not-some_flow_from g c = adds-no-flows (g.P.Allows.may c.args.read.now.policy.now)
    c.args.read.now.members.now (types_numbered c.args.read.now.count) c.args.id c.args.nevers.now c.args.found.now.items
    (sym c.some_flow_from.ensures ∙ c.if-not-some_flow_from.true)
