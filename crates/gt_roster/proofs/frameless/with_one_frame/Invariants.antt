use Rattle.std.proofs.Common.{◌≡◌, map, take}
use Rattle.gt_roster.specs.Frameless.{with_one_frame}
use Rattle.gt_roster.proofs.frameless.with_one_frame.Given as goal

abbrev pub invariant-domains : goal.invariant-domains
invariant-domains l = l.domains.items ≡ map with_one_frame (take l.domain-index l.config.domains.items)
