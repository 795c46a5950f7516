-- The faults of a run.
use Rattle.std.specs.Prelude.{ℕ, List, codes}
use Rattle.gt_script_runs.specs.Faults.{play_fault_text}
use Rattle.gt_script_runs.specs.declared.fault.PlayFault.TheVariants.{Memory, Write}
use Rattle.gt_run.specs.declared.fault.RunFault.{RunFault}
use Rattle.gt_run.specs.declared.fault.RunFault.TheVariants as run_faults

-- the fault of a run, as one line
abbrev pub run_fault_text : RunFault → List ℕ
run_fault_text (run_faults.Play fault) = play_fault_text fault
run_fault_text run_faults.Thread = codes "thread"

-- an allocation failed
abbrev pub run_out_of_memory : RunFault
run_out_of_memory = run_faults.Play Memory

-- a write failed
abbrev pub not_written : RunFault
not_written = run_faults.Play Write
