use Rattle.std.proofs.Common.{◌<◌, length}
use Rattle.gt_explore_replay.proofs.Starting.{walker_first, walkers_more}
use Rattle.gt_explore_replay.proofs.replay.walkers_of.Goals as goal

pub domains-preserved : goal.domains-preserved
domains-preserved c =
    let within : c.domains.domain-index < length c.args.domains.now = c.domains-test.true in
    rw c.in_ok-push.ensures.items (walkers_more c.args.script.now.tasks c.args.domains.now c.domains.walkers.items c.domains.domain-index c.new.result _ within c.new.ensures.dom
    (walker_first c.args.script.now.tasks c.new.result c.in_ok-tasks.tasks.items _ c.in_ok-tasks.ensures c.new.ensures.dom c.new.ensures.tasks c.new.ensures.next c.new.ensures.doing c.new.ensures.labels c.new.ensures.held c.new.ensures.text)
    c.domains.invariant)
