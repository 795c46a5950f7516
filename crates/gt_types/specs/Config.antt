-- The limits of a configuration, and its first fault.
use Rattle.std.specs.Prelude.{◌≡◌, ◌≢◌, ◌⊎◌, ◌≤◌, ◌<◌, ℕ, Bool, true, false, not, ◌&&◌, nat_le, ◌==◌, List, [], length}
use Rattle.std.specs.Prelude.{take, slice_get, Option, Some, None, All, AllPairs}
use Rattle.std.specs.List.{list_any}
use Rattle.std.specs.Option.{option_or}
use Rattle.gt_types.specs.declared.DomId.{DomId}
use Rattle.gt_types.specs.declared.config.Config.{Config}
use Rattle.gt_types.specs.declared.config.DomainConfig.{DomainConfig}
use Rattle.gt_types.specs.declared.config.ConfigFault.{ConfigFault}
use Rattle.gt_types.specs.declared.config.ConfigFault.TheVariants.{NoDomains, TooMany, Id, Repeated, Frames}
use Rattle.gt_types.specs.declared.config.ConfigFault.TheVariants.{TableFrames, Version, Generation}
use Rattle.gt_types.specs.declared.limits.TheConstants.{DOMID_SELF, MAX_DOMAINS, MAX_FRAMES, MAX_TABLE_FRAMES}
use Rattle.gt_types.specs.declared.limits.TheConstants.{LAST_VERSION, LAST_GENERATION}

-- the limits of a run: 1 to MAX_DOMAINS domains, with distinct numbers below DOMID_SELF; for each of them 1 to
-- MAX_FRAMES frames, 1 to MAX_TABLE_FRAMES table frames and a version from 1 to LAST_VERSION; and a first generation
-- of at most LAST_GENERATION
pub record IsWithinLimits (c : Config) : Type 0 where
  pub some : 1 ≤ length c.domains.items
  pub few : length c.domains.items ≤ MAX_DOMAINS
  pub ids : All (λ d. d.id.0 < DOMID_SELF) c.domains.items
  pub distinct : AllPairs (λ d e. d.id.0 ≢ e.id.0) c.domains.items
  pub frames : All (λ d. (1 ≤ d.frames) × (d.frames ≤ MAX_FRAMES)) c.domains.items
  pub table_frames : All (λ d. (1 ≤ d.table_frames) × (d.table_frames ≤ MAX_TABLE_FRAMES)) c.domains.items
  pub versions : All (λ d. (1 ≤ d.version) × (d.version ≤ LAST_VERSION)) c.domains.items
  pub generation : c.first_gen ≤ LAST_GENERATION

-- the fault, if the test holds
abbrev pub fault_when : Bool → ConfigFault → Option ConfigFault
fault_when true fault = Some fault
fault_when false fault = None

-- the number is 0, or above the last
abbrev pub is_out_of_range : ℕ → ℕ → Bool
is_out_of_range last n = not (nat_le 1 n && nat_le n last)

-- one of the domains has this number
abbrev pub is_taken : List DomainConfig → DomId → Bool
is_taken domains id = list_any (λ d. d.id.0 == id.0) domains

-- the first fault of a domain that follows the domains `before`, in this order: one domain too many, number,
-- repetition, frames, table frames, version
unfoldable pub domain_fault : List DomainConfig → DomainConfig → Option ConfigFault
domain_fault before d =
    option_or (fault_when (nat_le MAX_DOMAINS (length before)) (TooMany d.id))
    (option_or (fault_when (nat_le DOMID_SELF d.id.0) (Id d.id))
    (option_or (fault_when (is_taken before d.id) (Repeated d.id))
    (option_or (fault_when (is_out_of_range MAX_FRAMES d.frames) (Frames d.id))
    (option_or (fault_when (is_out_of_range MAX_TABLE_FRAMES d.table_frames) (TableFrames d.id))
    (fault_when (is_out_of_range LAST_VERSION d.version) (Version d.id))))))

-- no domain has a fault, given those before it
pub record AreFaultless (domains : List DomainConfig) : Type 0 where
  pub each : (at : ℕ) (domain : DomainConfig) → slice_get domains at ≡ Some domain
      → domain_fault (take at domains) domain ≡ None

-- the fault is that of the first domain that has one
pub record IsFirstDomainFault (domains : List DomainConfig) (fault : ConfigFault) : Type 0 where
  pub at : ℕ
  pub domain : DomainConfig
  pub there : slice_get domains at ≡ Some domain
  pub earlier : AreFaultless (take at domains)
  pub here : domain_fault (take at domains) domain ≡ Some fault

-- the first fault of a configuration: that it has no domain; otherwise that of the first domain with a fault;
-- otherwise that of the first generation
abbrev pub IsFirstFault : Config → ConfigFault → Type 0
IsFirstFault c fault =
    ((fault ≡ NoDomains) × (c.domains.items ≡ []))
    ⊎ (IsFirstDomainFault c.domains.items fault
    ⊎ ((fault ≡ Generation) × (c.domains.items ≢ []) × AreFaultless c.domains.items × (LAST_GENERATION < c.first_gen)))
