-- Why a roster can't be made.
use Rattle.gt_types.specs.Config.{IsFirstFault, IsWithinLimits}
use Rattle.gt_types.specs.declared.config.Config.{Config}
use Rattle.gt_types.specs.declared.config.StartFault.{StartFault}
use Rattle.gt_types.specs.declared.config.StartFault.TheVariants as start_faults

-- the first fault of the configuration, or Memory if it has none
abbrev pub IsStartFault : Config → StartFault → Type 0
IsStartFault c (start_faults.Config f) = (¬ IsWithinLimits c) × IsFirstFault c f
IsStartFault c start_faults.Memory = IsWithinLimits c
