use Rattle.std.proofs.Common.{◌≡◌, length, All}
use Rattle.gt_explore_moves.specs.Copies.{IsFirstActor}
use Rattle.gt_explore_moves.proofs.scene.first_actors.Given as goal

abbrev pub invariant-actors : goal.invariant-actors
invariant-actors l = (length l.actors.items ≡ l._number) × All IsFirstActor l.actors.items
