use Rattle.std.proofs.Common.{◌≡◌, take}
use Rattle.std.specs.List.{flat_map}
use Rattle.gt_frames.specs.Sets.{zero_frames}
use Rattle.gt_frames.proofs.frames.frames_of_zeros.Given as goal

abbrev pub invariant-domains : goal.invariant-domains
invariant-domains l = l.frames.items ≡ flat_map zero_frames (take l.domain-index l.fn.domains)
