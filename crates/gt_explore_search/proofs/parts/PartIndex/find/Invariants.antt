use Rattle.gt_explore_search.proofs.parts.PartIndex.find.Given as goal

abbrev pub invariant-numbers : goal.invariant-numbers
invariant-numbers g l = Unit {0}
