use Rattle.gt_explore_moves.proofs.FirstWorld.{lists-more}
use Rattle.gt_explore_moves.proofs.scene.lists_of.Goals as goal

pub domains-preserved : goal.domains-preserved
domains-preserved c =
    lists-more c.args.script.now.tasks c.args.domains.now c.domains.lists.items c.push.new.self.items _ c.domains.domain-index _ c.domains-test.true c.in_ok-list_of.ensures c.in_ok-push.ensures.items
    c.domains.invariant
