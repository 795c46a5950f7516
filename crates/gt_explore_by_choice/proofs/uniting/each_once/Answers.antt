use Rattle.gt_explore_by_choice.proofs.United.{moved_among, moved_whole}
use Rattle.gt_explore_by_choice.proofs.uniting.each_once.Goals as goal

pub returns-clause-among : goal.returns-clause-among
returns-clause-among c = moved_among c.sorted_once.result c.args.orders.items c.in_ok-sorted.sorted.items c.in_ok-sorted.ensures c.sorted_once.ensures.among

pub returns-clause-whole : goal.returns-clause-whole
returns-clause-whole c = λ text there.
    moved_whole c.sorted_once.result c.args.orders.items c.in_ok-sorted.sorted.items text c.in_ok-sorted.ensures c.sorted_once.ensures.whole there
