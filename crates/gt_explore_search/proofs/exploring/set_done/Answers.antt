use Rattle.gt_explore_search.proofs.Finding.{done_set}
use Rattle.gt_explore_search.proofs.exploring.set_done.Goals as goal

pub returns : goal.returns
returns c = λ s i is. done_set c.args.done.now.items c.args.state c.args.node s i is
