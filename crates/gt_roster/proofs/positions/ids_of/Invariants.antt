use Rattle.std.proofs.Common.{◌≡◌, map, take}
use Rattle.gt_roster.proofs.positions.ids_of.Given as goal

abbrev pub invariant-loop-domain : goal.invariant-loop-domain
invariant-loop-domain l = l.ids.items ≡ map (λ d. d.id) (take l.domain-index l.config.domains.items)
