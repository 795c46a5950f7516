-- The configuration of a monitor that keeps no frames: a domain may have any number of them, except none.
use Rattle.std.specs.Prelude.{◌≡◌, ◌≢◌, ◌≤◌, ◌<◌, ◌==◌, cond, length, map, All, AllPairs}
use Rattle.gt_types.specs.Config.{IsFirstFault, IsWithinLimits}
use Rattle.gt_types.specs.declared.config.Config.{Config}
use Rattle.gt_types.specs.declared.config.DomainConfig.{DomainConfig}
use Rattle.gt_types.specs.declared.config.StartFault.{StartFault}
use Rattle.gt_types.specs.declared.config.StartFault.TheVariants as start_faults
use Rattle.gt_types.specs.declared.limits.TheConstants.{DOMID_SELF, LAST_GENERATION, LAST_VERSION, MAX_DOMAINS}
use Rattle.gt_types.specs.declared.limits.TheConstants.{MAX_TABLE_FRAMES}

-- the limits of IsWithinLimits, except that a domain may have any number of frames from 1 on
pub record IsRunnable (c : Config) : Type 0 where
  pub some : 1 ≤ length c.domains.items
  pub few : length c.domains.items ≤ MAX_DOMAINS
  pub ids : All (λ d. d.id.0 < DOMID_SELF) c.domains.items
  pub distinct : AllPairs (λ d e. d.id.0 ≢ e.id.0) c.domains.items
  pub frames : All (λ d. 1 ≤ d.frames) c.domains.items
  pub table_frames : All (λ d. (1 ≤ d.table_frames) × (d.table_frames ≤ MAX_TABLE_FRAMES)) c.domains.items
  pub versions : All (λ d. (1 ≤ d.version) × (d.version ≤ LAST_VERSION)) c.domains.items
  pub generation : c.first_gen ≤ LAST_GENERATION

-- the domain, with one frame if it has more
abbrev pub with_one_frame : DomainConfig → DomainConfig
with_one_frame d = record d { frames = cond (d.frames == 0) 0 1 }

-- the second configuration is the first, with at most one frame a domain
abbrev pub HasOneFrameEach : Config → Config → Type 0
HasOneFrameEach c e = (e.domains.items ≡ map with_one_frame c.domains.items) × (e.first_gen ≡ c.first_gen)

-- why no monitor without frames can be made: the first fault of the configuration, where no number of frames is too
-- large; or an allocation failed
abbrev pub IsFramelessFault : Config → StartFault → Type 0
IsFramelessFault c (start_faults.Config f) = (¬ IsRunnable c) × ((e : Config) × HasOneFrameEach c e × IsFirstFault e f)
IsFramelessFault c start_faults.Memory = Unit {0}

-- each configuration within the limits is runnable
abbrev pub LimitsAreRunnable : Type 0
LimitsAreRunnable = (c : Config) → IsWithinLimits c → IsRunnable c

-- a configuration is runnable exactly if it is within the limits with at most one frame a domain
abbrev pub OneFrameIsEnough : Type 0
OneFrameIsEnough = (c e : Config) → HasOneFrameEach c e → (IsWithinLimits e → IsRunnable c) × (IsRunnable c → IsWithinLimits e)
