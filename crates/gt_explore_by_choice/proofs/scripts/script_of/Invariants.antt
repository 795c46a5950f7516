use Rattle.gt_explore_by_choice.proofs.scripts.script_of.Given as goal

abbrev pub invariant-choices : goal.invariant-choices
invariant-choices l = Unit {0}
