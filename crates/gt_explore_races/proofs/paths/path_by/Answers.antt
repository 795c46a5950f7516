use Rattle.gt_explore_races.proofs.paths.path_by.Goals as goal

pub returns : goal.returns
returns c = let near = rw c.in-Some.is at c.in_ok-near.ensures in rw c.in-Some-2.is at (c.in_ok-events.ensures near)
