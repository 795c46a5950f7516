use Rattle.std.proofs.Common.{[]}
use Rattle.gt_neverflow.specs.Flowing.{AddsFlows}
use Rattle.gt_neverflow.proofs.FlowingLemmas.{flows_below}
use Rattle.gt_neverflow.proofs.flowing.all_flows.Given as goal

abbrev pub invariant-sources : goal.invariant-sources
invariant-sources g l = AddsFlows (g.P.Allows.may l.read.policy.now) l.read.members.now
    (flows_below l.read.members.now l.nevers l.read.count l.id) [] l.found.items
