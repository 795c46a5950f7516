-- The errors of the steps of a script.
use Rattle.std.specs.Prelude.{Result, Ok, Err}
use Rattle.gt_script_runs.specs.declared.fault.PlayFault.{PlayFault}
use Rattle.gt_script_runs.specs.declared.fault.PlayFault.TheVariants as play_faults
use Rattle.gt_host.specs.declared.fault.StepsFault.{StepsFault}
use Rattle.gt_host.specs.declared.fault.StepsFault.TheVariants as steps_faults

-- the result of a run for that of its steps
abbrev pub play_ended : Result (Unit {0}) StepsFault → Result (Unit {0}) PlayFault
play_ended (Ok done) = Ok done
play_ended (Err steps_faults.Memory) = Err play_faults.Memory
play_ended (Err steps_faults.Write) = Err play_faults.Write
