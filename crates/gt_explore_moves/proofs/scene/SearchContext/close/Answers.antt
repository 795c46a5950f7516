use Rattle.gt_explore_moves.proofs.scene.SearchContext.close.Goals as goal

pub returns-in_default-clause-back : goal.returns-in_default-clause-back
returns-in_default-clause-back c = λ a there none. c.close_back.ensures a there
