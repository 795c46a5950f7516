use Rattle.std.proofs.Common.{◌≡◌, ◌<◌, ℕ, None, slice_index_or}
use Rattle.gt_handles.proofs.handles.Handles.least_key.Given as goal

abbrev pub invariant-loop-key : goal.invariant-loop-key
invariant-loop-key g l = (below : ℕ) → below < l.key → slice_index_or l.self.slots below None ≡ None
