use Rattle.gt_linearization.proofs.Called.{map-made, plain-made, release-made, unmap-made}
use Rattle.gt_linearization.proofs.Accessing.{copies-made, lost-made, reads-made, writes-made}
use Rattle.gt_linearization.proofs.Probed.{body_words-made, lost-copies}
use Rattle.gt_linearization.proofs.laws.calls_of_domains_are_made.Goals as goal

pub returns : goal.returns
returns g c = record { plain = plain-made _ _; unmaps = unmap-made _ _; releases = release-made _ _; maps = map-made _ _; writes = writes-made _ _; reads = reads-made _ _; copies = copies-made _ _; lost = lost-made _ _; lost_copies = lost-copies _ _; body_words = body_words-made _ _ }
