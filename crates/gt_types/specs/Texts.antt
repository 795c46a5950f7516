-- The texts of errors.
use Rattle.std.specs.Prelude.{ℕ, List, ◌++◌, codes}
use Rattle.std.specs.Fmt.{decimal}
use Rattle.gt_types.specs.declared.DomId.{DomId}
use Rattle.gt_types.specs.declared.config.ConfigFault.{ConfigFault}
use Rattle.gt_types.specs.declared.config.ConfigFault.TheVariants.{NoDomains, TooMany, Id, Repeated, Frames}
use Rattle.gt_types.specs.declared.config.ConfigFault.TheVariants.{TableFrames, Version, Generation}
use Rattle.gt_types.specs.declared.config.StartFault.{StartFault}
use Rattle.gt_types.specs.declared.config.StartFault.TheVariants.{Config, Memory}

-- the text of a fault of the domain with this number
abbrev pub of_domain : DomId → List ℕ → List ℕ
of_domain id fault = codes "domain " ++ decimal id.0 ++ fault

-- the text of a fault of a configuration
abbrev pub config_fault_text : ConfigFault → List ℕ
config_fault_text NoDomains = codes "no domain"
config_fault_text (TooMany id) = of_domain id (codes ": one domain too many")
config_fault_text (Id id) = of_domain id (codes ": number out of range")
config_fault_text (Repeated id) = of_domain id (codes ": number given before")
config_fault_text (Frames id) = of_domain id (codes ": frames out of range")
config_fault_text (TableFrames id) = of_domain id (codes ": table frames out of range")
config_fault_text (Version id) = of_domain id (codes ": no such version")
config_fault_text Generation = codes "first generation out of range"

-- the text of the reason why a run can't start
abbrev pub start_fault_text : StartFault → List ℕ
start_fault_text (Config fault) = config_fault_text fault
start_fault_text Memory = codes "memory was refused"
