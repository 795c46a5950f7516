use Rattle.std.proofs.Common.{take}
use Rattle.gt_neverflow.specs.Flowing.{AddsFlows, flows_of, types_numbered}
use Rattle.gt_neverflow.proofs.flowing.push_flows_of.Given as goal

abbrev pub invariant-nevers : goal.invariant-nevers
invariant-nevers g l = AddsFlows (g.P.Allows.may l.source.policy.now) l.source.members.now
    (flows_of l.source.members.now (take l.never-index l.nevers) (types_numbered l.source.count) l.source.id) l.initial.found.items
    l.found.items
