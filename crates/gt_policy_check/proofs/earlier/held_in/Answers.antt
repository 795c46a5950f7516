use Rattle.gt_policy_check.proofs.EarlierLemmas.{held_next}
use Rattle.gt_policy_check.proofs.earlier.held_in.Goals as goal

pub members-preserved : goal.members-preserved
members-preserved c =
    let next = held_next c.args.members.now c.args.items.now c.members.held.items c.push_if_held.new.held.items c.members.place c.index-members-place.result
    c.members-test.true c.index-members-place.is c.members.invariant.each c.members.invariant.every c.in_ok-push_if_held.ensures in
    record { each = next.0; every = next.1 }
