use Rattle.gt_explore_ordered.proofs.space.OrderedSpaceTransitionSystem.alike.Goals as goal

pub returns : goal.returns
returns c = λ w v same p shows. (c.alike.ensures w v same p.run shows.0, shows.1, shows.2)
