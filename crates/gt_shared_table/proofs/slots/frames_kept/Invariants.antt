use Rattle.std.proofs.Common.{◌≡◌, map, take}
use Rattle.gt_types.specs.declared.config.DomainConfig.{DomainConfig}
use Rattle.gt_shared_table.proofs.slots.frames_kept.Given as goal

abbrev pub invariant-domains : goal.invariant-domains
invariant-domains l = l.counts.items ≡ map (λ (d : DomainConfig). d.frames) (take l.domain-index l.config.domains.items)
