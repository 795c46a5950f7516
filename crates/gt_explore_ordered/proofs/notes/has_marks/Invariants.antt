use Rattle.std.proofs.Common.{◌≡◌, ◌<◌, ℕ, None, Some}
use Rattle.std.specs.Prelude.{slice_get}
use Rattle.gt_explore_ordered.specs.Notes.{has_mark}
use Rattle.gt_explore_ordered.proofs.notes.has_marks.Given as goal

-- the marks so far are right
abbrev pub invariant-loop-number : goal.invariant-loop-number
invariant-loop-number l = (k : ℕ) → k < l.number → slice_get l.held k ≡ Some (has_mark k None l.bytes)
