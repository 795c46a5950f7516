use Rattle.gt_neverflow.specs.Flowing.{types_numbered}
use Rattle.gt_neverflow.proofs.FlowingLemmas.{adds-none, more-statements}
use Rattle.gt_neverflow.proofs.flowing.push_flows_of.Goals as goal

pub nevers-init : goal.nevers-init
nevers-init g c = adds-none (g.P.Allows.may c.args.source.now.policy.now) c.args.source.now.members.now
    c.args.found.now.items

pub nevers-preserved : goal.nevers-preserved
nevers-preserved g c = more-statements (g.P.Allows.may c.args.source.now.policy.now) c.args.source.now.members.now
    (types_numbered c.args.source.now.count) c.args.source.now.id c.args.nevers.now c.nevers.never-index c.never-item.result
    c.args.found.now.items c.nevers.found.items c.push_flows_by.new.found.items c.nevers-test.true c.never-item.is
    c.nevers.invariant c.in_ok-push_flows_by.ensures
