use Rattle.gt_explore_kinds.proofs.space.KindSpaceTransitionSystem.alike.Goals as goal

pub returns : goal.returns
returns c = λ w v same p shows. (c.alike.ensures w v same p shows.0, shows.1)
