-- Copies between two frames, or within one.
use Rattle.std.specs.Prelude.{◌≡◌, ℕ, ◌+◌, ◌≤◌, Result, IsTrue, IfOk, OnOk, OnErr}
use Rattle.gt_types.specs.declared.limits.TheConstants.{FRAME_SIZE}
use Rattle.gt_types.specs.declared.Memory.{Memory}
use Rattle.gt_types.specs.declared.Range.{Range}
use Rattle.gt_frames.specs.declared.writ.Writ.{Writ}
use Rattle.gt_frames.specs.Frames.{FrameState, bytes_at, covers, IsKept, IsWrite}
use Rattle.gt_frames.specs.Receipts.{Copying, copying_of}

-- a range may be copied to this offset of this frame: both ranges lie inside frames, and the writ covers the one that
-- is written
pub record CanCopy (w : Writ) (to : FrameState) (range : Range) (to_off : ℕ) : Type 0 where
  pub source : range.off + range.len ≤ FRAME_SIZE
  pub dest : to_off + range.len ≤ FRAME_SIZE
  pub right : IsTrue (covers w to.owner to.number to_off range.len)

-- Ok: the bytes of the range were written to the other frame at this offset, and the receipt states that. Err: that
-- frame is unchanged.
pub record IsCopy (from old new : FrameState) (w : Writ) (range : Range) (to_off : ℕ) (result : Result Copying Memory) : Type 0 where
  pub written : OnOk result (IsWrite old new w to_off (bytes_at from range.off range.len))
  pub kept : IsKept new
  pub receipt : IfOk result (λ r. r ≡ copying_of from range.off old to_off range.len w.writer)
  pub refused : OnErr result (new ≡ old)
