use Rattle.std.proofs.Common.{◌≡◌, ◌<◌, ℕ, None}
use Rattle.std.specs.List.{position_from}
use Rattle.gt_explore_moves.specs.Ends.{tasks_at}
use Rattle.gt_explore_ordered.specs.Places.{is_call_of}
use Rattle.gt_explore_ordered.proofs.places.place_of.Given as goal

-- the lists so far have no call of the line
abbrev pub invariant-loop-place : goal.invariant-loop-place
invariant-loop-place l = (at : ℕ) → at < l.place → position_from (is_call_of l.line) 0 (tasks_at l.scene at) ≡ None
