use Rattle.std.proofs.Common.{◌≡◌, ◌+◌, ◌≤◌, Some, drop}
use Rattle.gt_explore_changes.specs.Waiting.{actor_waits, waiting_by}
use Rattle.gt_explore_changes.proofs.space.BlockSpace.waiting.Given as goal

abbrev pub invariant-loop-at : goal.invariant-loop-at
invariant-loop-at l = (l.waiting + waiting_by (actor_waits l.self.scene) (Some l.place) l.at (drop l.at l.state.scene_state.actors.items)
    ≡ waiting_by (actor_waits l.self.scene) (Some l.place) 0 l.state.scene_state.actors.items) × (l.waiting ≤ l.at)
