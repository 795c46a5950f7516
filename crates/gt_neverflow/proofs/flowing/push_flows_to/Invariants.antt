use Rattle.gt_neverflow.specs.Flowing.{AddsFlows, flows_to, types_numbered}
use Rattle.gt_neverflow.proofs.flowing.push_flows_to.Given as goal

abbrev pub invariant-targets : goal.invariant-targets
invariant-targets g l = AddsFlows (g.P.Allows.may l.source.policy.now) l.source.members.now
    (flows_to l.source.members.now (types_numbered l.id) l.source.id l.never) l.initial.found.items l.found.items
