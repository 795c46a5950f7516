use Rattle.std.proofs.Common.{◌≡◌, take}
use Rattle.gt_explore_moves.specs.Ends.{turns_from}
use Rattle.gt_explore_moves.proofs.scene.SearchContext.all_turns.Given as goal

abbrev pub invariant-loop-place : goal.invariant-loop-place
invariant-loop-place l = l.turns.items ≡ turns_from l.self 0 (take l.place l.world.actors.items)
