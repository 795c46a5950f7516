use Rattle.std.proofs.Common.{◌≡◌, ◌+◌, drop}
use Rattle.gt_frames.specs.Places.{pool_number, frames_of}
use Rattle.gt_frames.proofs.places.number_in_pool.Given as goal

abbrev pub invariant-domains : goal.invariant-domains
invariant-domains l =
    (l.first + frames_of (drop l.domain-index l.domains) ≡ frames_of l.domains)
    × (pool_number l.domains l.name.owner l.name.number 0 ≡ pool_number (drop l.domain-index l.domains) l.name.owner l.name.number l.first)
