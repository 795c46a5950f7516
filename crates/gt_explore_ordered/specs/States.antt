-- Which precedences a turn completes, by the state before it.
use Rattle.std.specs.Prelude.{ℕ, ◌+◌, Bool, true, false, not, ◌==◌, ◌&&◌, nat_lt, List, [], ◌∷◌, ◌++◌, Option}
use Rattle.std.specs.Prelude.{Some, None}
use Rattle.std.specs.Prelude.{is_some, slice_get}
use Rattle.gt_explore_moves.specs.declared.actor.Actor.{Actor}
use Rattle.gt_explore_moves.specs.declared.actor.ActorCall.{ActorCall}
use Rattle.gt_explore_moves.specs.declared.scene.SearchState.{SearchState}
use Rattle.gt_explore_search.specs.declared.spaces.Turn.{Turn}
use Rattle.gt_explore_ordered.specs.Notes.{Note, mark_if}
use Rattle.gt_explore_ordered.specs.declared.places.CallOrder.{CallOrder}
use Rattle.gt_explore_ordered.specs.declared.places.CallPlace.{CallPlace}

-- the next move of a domain begins the task at this index
abbrev pub begins_by : Option Actor → ℕ → Bool
begins_by None index = false
begins_by (Some a) index = not (is_some a.«open») && (a.next == index)

-- the turn begins the call at this place
abbrev pub begins_at : SearchState → Turn → CallPlace → Bool
begins_at w turn call = (turn.place == call.place) && begins_by (slice_get w.actors.items call.place) call.index

-- it is the task at this index
abbrev pub is_task : Option ℕ → ℕ → Bool
is_task None index = false
is_task (Some n) index = n == index

-- the open call is that of the task at this index
abbrev pub is_open_at : Option ActorCall → ℕ → Bool
is_open_at None index = false
is_open_at (Some o) index = is_task o.task index

-- the call of the task at this index of a domain's list has its answer
abbrev pub answered_by : Option Actor → ℕ → Bool
answered_by None index = false
answered_by (Some a) index = nat_lt index a.next && not (is_open_at a.«open» index)

-- the call at this place has its answer
abbrev pub is_answered_at : SearchState → CallPlace → Bool
is_answered_at w call = answered_by (slice_get w.actors.items call.place) call.index

-- the turn begins the second call of a precedence, and the first one has its answer
abbrev pub completes : SearchState → Turn → Option CallOrder → Bool
completes w turn None = false
completes w turn (Some o) = begins_at w turn o.second && is_answered_at w o.first

-- the marks of those of these precedences that pass a test; the first one has this number
abbrev pub marks_of_orders : (Option CallOrder → Bool) → ℕ → List (Option CallOrder) → List Note
marks_of_orders passes n [] = []
marks_of_orders passes n (o ∷ os) = mark_if (passes o) n ++ marks_of_orders passes (n + 1) os
