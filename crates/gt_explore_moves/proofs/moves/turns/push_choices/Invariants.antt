use Rattle.std.proofs.Common.{◌≡◌, ◌++◌}
use Rattle.gt_explore_moves.specs.Ends.{choices}
use Rattle.gt_explore_moves.proofs.moves.turns.push_choices.Given as goal

abbrev pub invariant-loop-choice : goal.invariant-loop-choice
invariant-loop-choice l = l.turns.items ≡ l.fn.turns.items ++ choices l.place l.choice
