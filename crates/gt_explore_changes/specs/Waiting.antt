-- Domains whose lists are not at their ends.
use Rattle.std.specs.Prelude.{ℕ, suc, ◌+◌, ◌&&◌, Bool, List, [], ◌∷◌, Option, Some, is_some, not, slice_get}
use Rattle.std.specs.Prelude.{nat_le}
use Rattle.std.specs.Prelude.{if◌then◌else◌}
use Rattle.gt_explore_changes.specs.Blocks.{blocks_with, is_last}
use Rattle.gt_explore_changes.specs.declared.parts.BlockState.{BlockState}
use Rattle.gt_explore_moves.specs.Ends.{tasks_at}
use Rattle.gt_explore_moves.specs.declared.actor.Actor.{Actor}
use Rattle.gt_explore_moves.specs.declared.scene.SearchContext.{SearchContext}
use Rattle.gt_explore_replay.specs.Courses.{Course}
use Rattle.gt_explore_search.specs.declared.spaces.Turn.{Turn}

-- how many of these, of which the first is at this position, have something left, without the one that moved last
abbrev pub waiting_by : {X : Type 0} → (ℕ → X → Bool) → Option ℕ → ℕ → List X → ℕ
waiting_by has last at [] = 0
waiting_by has last at (x ∷ xs) =
    (if not (is_last last at) && has at x then 1 else 0) + waiting_by has last (suc at) xs

-- a domain has tasks of its list left to begin: on its course, and in a state
abbrev pub course_waits : ℕ → Course → Bool
course_waits at k = is_some (slice_get k.tasks 0)

abbrev pub actor_waits : SearchContext → ℕ → Actor → Bool
actor_waits scene at a = is_some (slice_get (tasks_at scene at) a.next)

-- a run that continues with this turn may end in at most this number of blocks: each other domain with tasks left needs one
abbrev pub may_end_within : ℕ → SearchContext → BlockState → Turn → Bool
may_end_within most scene w turn =
    nat_le (blocks_with w.last w.blocks turn.place
    + waiting_by (actor_waits scene) (Some turn.place) 0 w.scene_state.actors.items) most
