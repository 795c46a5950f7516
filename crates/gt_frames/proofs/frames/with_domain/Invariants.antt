use Rattle.std.proofs.Common.{◌≡◌, ◌++◌, map}
use Rattle.std.specs.List.{range_with_len}
use Rattle.gt_frames.specs.Sets.{zero_in}
use Rattle.gt_frames.proofs.frames.with_domain.Given as goal

abbrev pub invariant-frames : goal.invariant-frames
invariant-frames l = l.all.items ≡ l.fn.frames.items ++ map (zero_in (record { owner = l.owner; frames = l.count })) (range_with_len 0 l.number)
