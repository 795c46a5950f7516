use Rattle.std.proofs.Common.{◌≡◌, take}
use Rattle.gt_frames.specs.Places.{frame_counts}
use Rattle.gt_frames.proofs.places.frame_counts.Given as goal

abbrev pub invariant-domains : goal.invariant-domains
invariant-domains l = l.counts.items ≡ frame_counts (take l.domain-index l.config.domains.items)
