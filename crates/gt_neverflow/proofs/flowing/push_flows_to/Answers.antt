use Rattle.gt_neverflow.proofs.FlowingLemmas.{more-targets, no-target}
use Rattle.gt_neverflow.proofs.flowing.push_flows_to.Goals as goal

pub targets-init : goal.targets-init
targets-init g c = no-target (g.P.Allows.may c.args.source.now.policy.now) c.args.source.now.members.now
    c.args.source.now.id c.args.never.now c.args.found.now.items

pub targets-preserved : goal.targets-preserved
targets-preserved g c = more-targets (g.P.Allows.may c.args.source.now.policy.now) c.args.source.now.members.now
    c.args.source.now.id c.args.never.now c.targets.id c.args.found.now.items c.targets.found.items
    c.push_flow.new.found.items c.targets.invariant c.in_ok-push_flow.ensures
