-- A configuration for a table without frames.
use Rattle.std.specs.Prelude.{◌≡◌, map}
use Rattle.gt_types.specs.declared.config.Config.{Config}
use Rattle.gt_types.specs.declared.config.DomainConfig.{DomainConfig}

-- the domain, with no frame
abbrev pub frameless : DomainConfig → DomainConfig
frameless d = record d { frames = 0 }

-- the second configuration is the first, except that no domain has a frame
abbrev pub IsFrameless : Config → Config → Type 0
IsFrameless c e = (e.domains.items ≡ map frameless c.domains.items) × (e.first_gen ≡ c.first_gen)
