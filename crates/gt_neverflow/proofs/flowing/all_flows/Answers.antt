use Rattle.std.proofs.Common.{[]}
use Rattle.gt_neverflow.proofs.FlowingLemmas.{more-sources, no-source-yet}
use Rattle.gt_neverflow.proofs.flowing.all_flows.Goals as goal

pub sources-init : goal.sources-init
sources-init g c = rw c.new-found.ensures.items
    (no-source-yet (g.P.Allows.may c.args.read.now.policy.now) c.args.read.now.members.now c.args.nevers.now
    c.args.read.now.count [])

pub sources-preserved : goal.sources-preserved
sources-preserved g c = more-sources (g.P.Allows.may c.args.read.now.policy.now) c.args.read.now.members.now
    c.args.nevers.now c.args.read.now.count c.sources.id [] c.sources.found.items c.push_flows_from.new.found.items
    c.sources.invariant c.in_ok-push_flows_from.ensures
