-- The errors of a play.
use Rattle.std.specs.Prelude.{ℕ, List, codes}
use Rattle.gt_policy.specs.Texts.{fault_text as policy_fault_text}
use Rattle.gt_script.specs.Faults.{script_fault_text}
use Rattle.gt_script.specs.declared.faults.ScriptError.{ScriptError}
use Rattle.gt_script.specs.declared.faults.ScriptError.TheVariants as script_errors
use Rattle.gt_text.specs.declared.fault.ReadFault.{ReadFault}
use Rattle.gt_text.specs.declared.fault.ReadFault.TheVariants as read_faults
use Rattle.gt_script_runs.specs.declared.fault.PlayFault.{PlayFault}
use Rattle.gt_script_runs.specs.declared.fault.PlayFault.TheVariants as play_faults

-- the error of a run for a script that was not parsed
abbrev pub fault_of : ScriptError → PlayFault
fault_of script_errors.Memory = play_faults.Memory
fault_of (script_errors.Fault fault) = play_faults.Script fault
fault_of (script_errors.Policy fault) = play_faults.Policy fault

-- the error of a run for a failed read
abbrev pub read_fault : ReadFault → PlayFault
read_fault read_faults.Memory = play_faults.Memory
read_fault read_faults.Read = play_faults.Read

-- the text of an error, as one line
abbrev pub play_fault_text : PlayFault → List ℕ
play_fault_text (play_faults.Script fault) = script_fault_text fault
play_fault_text (play_faults.Policy fault) = policy_fault_text fault.line fault.kind
play_fault_text play_faults.Memory = codes "memory"
play_fault_text play_faults.Read = codes "read"
play_fault_text play_faults.Write = codes "write"
