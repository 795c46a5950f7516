use Rattle.std.proofs.Common.{◌≡◌, take}
use Rattle.gt_explore_moves.specs.Ends.{choices_in, turns_by}
use Rattle.gt_explore_moves.proofs.scene.SearchContext.turns_of.Given as goal

abbrev pub invariant-loop-place : goal.invariant-loop-place
invariant-loop-place l = l.turns.items ≡ turns_by (choices_in l.self l.inside) 0 (take l.place l.world.actors.items)
