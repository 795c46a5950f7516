use Rattle.std.proofs.Common.{◌≡◌, ◌<◌, ℕ, take, Some}
use Rattle.std.specs.List.{flat_map}
use Rattle.std.specs.Prelude.{slice_get}
use Rattle.gt_explore_replay.specs.Walking.{IsAtEnd}
use Rattle.gt_explore_replay.specs.declared.walker.Walker.{Walker}
use Rattle.gt_explore_replay.proofs.replay.Replay.text.Given as goal

abbrev pub invariant-walkers : goal.invariant-walkers
invariant-walkers l =
    (l.text.items ≡ flat_map (λ w. w.text.items) (take l.walker-index l.walker-items))
    × ((k : ℕ) (w : Walker) → k < l.walker-index → slice_get l.walker-items k ≡ Some w → IsAtEnd w)
