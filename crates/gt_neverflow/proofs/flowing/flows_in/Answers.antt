use Rattle.std.proofs.Common.{◌∙◌}
use Rattle.gt_allow.specs.Looking.{looks_up}
use Rattle.gt_neverflow.proofs.FlowingLemmas.{among, breaches-of}
use Rattle.gt_neverflow.proofs.flowing.flows_in.Goals as goal

pub all_flows-requires : goal.all_flows-requires
all_flows-requires c = among (looks_up c.in_ok-table.table) c.args.policy.now c.in_ok-table.ensures c.count.result
    c.count.ensures c.allows_among_its_types.ensures

pub returns : goal.returns
returns c = λ m shows. breaches-of (looks_up c.in_ok-table.table) c.args.policy.now c.in_ok-table.ensures c.count.result
    c.count.ensures m c.args.statements.now c.as_slice.result.now c.args.nevers.now c.in_ok-found.found.items shows
    (c.as_slice.ensures.value ∙ c.in_ok-members.ensures) c.in_ok-found.ensures
