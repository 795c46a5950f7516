use Rattle.std.proofs.Common.{◌≡◌}
use Rattle.gt_explore_moves.specs.Parts.{lists_in, no_parts, with_parts}
use Rattle.gt_explore_moves.proofs.scene.SearchState.join.Given as goal

abbrev pub invariant-parts : goal.invariant-parts
invariant-parts l = lists_in l.state ≡ with_parts no_parts l.yielded
