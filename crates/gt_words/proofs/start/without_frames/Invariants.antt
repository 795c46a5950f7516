use Rattle.std.proofs.Common.{◌≡◌, map, take}
use Rattle.gt_words.specs.Frameless.{frameless}
use Rattle.gt_words.proofs.start.without_frames.Given as goal

abbrev pub invariant-domains : goal.invariant-domains
invariant-domains l = l.domains.items ≡ map frameless (take l.domain-index l.config.domains.items)
