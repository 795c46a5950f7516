use Rattle.std.proofs.Common.{◌≡◌, ◌++◌, map}
use Rattle.std.specs.Prelude.{Some}
use Rattle.gt_frames.specs.Frames.{FrameState}
use Rattle.gt_shared_table.proofs.slots.in_slots.Given as goal

abbrev pub invariant-frames : goal.invariant-frames
invariant-frames l = l.slots.items ++ map (λ (f : FrameState). Some f) l.frame-iterator.rest.items ≡ map (λ (f : FrameState). Some f) l.fn.frames.items
