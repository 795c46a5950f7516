-- Results, unless an allocation failed.
use Rattle.std.specs.Prelude.{◌≡◌, ℕ, Some, Result, Ok, Err}
use Rattle.gt_policy.specs.declared.fault.TokenFault as policy
use Rattle.gt_script.specs.Blocks.{block_fault_shown}
use Rattle.gt_script.specs.Contents.{Contents, contents_of}
use Rattle.gt_script.specs.Script.{Wrong, in_script, in_policy}
use Rattle.gt_script.specs.declared.faults.ScriptFaultKind.{ScriptFaultKind}
use Rattle.gt_script.specs.declared.faults.ScriptFault as text
use Rattle.gt_script.specs.declared.faults.ScriptError.{ScriptError}
use Rattle.gt_script.specs.declared.faults.ScriptError.TheVariants as script_errors
use Rattle.gt_script.specs.declared.script.Script.{Script}
use Rattle.gt_script.specs.declared.faults.AddError.{AddError}
use Rattle.gt_script.specs.declared.faults.AddError.TheVariants.{Memory, Fault}

-- one more line makes this script, or has this fault, unless an allocation failed
abbrev pub AddsLine : Result (Unit {0}) AddError → Contents → Result Contents ScriptFaultKind → Type 0
AddsLine (Ok done) script added = added ≡ Ok script
AddsLine (Err Memory) script added = Unit {0}
AddsLine (Err (Fault kind)) script added = added ≡ Err kind

-- lines make this script, or have this fault, unless an allocation failed; a fault of a policy is not one of lines
abbrev pub AddsLines : Result (Unit {0}) ScriptError → Contents → Result Contents text.ScriptFault → Type 0
AddsLines (Ok done) script said = said ≡ Ok script
AddsLines (Err script_errors.Memory) script said = Unit {0}
AddsLines (Err (script_errors.Fault fault)) script said = said ≡ Err fault
AddsLines (Err (script_errors.Policy fault)) script said = ⊥

-- the same for a script that the lines give
abbrev pub GivesScript : Result Script ScriptError → Result Contents text.ScriptFault → Type 0
GivesScript (Ok script) said = said ≡ Ok (contents_of script)
GivesScript (Err script_errors.Memory) said = Unit {0}
GivesScript (Err (script_errors.Fault fault)) said = said ≡ Err fault
GivesScript (Err (script_errors.Policy fault)) said = ⊥

-- `Told` holds of this script or this fault, unless an allocation failed
abbrev pub AnswersScript : Result Script ScriptError → (Result Contents Wrong → Type 0) → Type 0
AnswersScript (Ok script) Told = Told (Ok (contents_of script))
AnswersScript (Err script_errors.Memory) Told = Unit {0}
AnswersScript (Err (script_errors.Fault fault)) Told = Told (Err (in_script fault))
AnswersScript (Err (script_errors.Policy fault)) Told =
    (g : policy.TokenFault) × (block_fault_shown fault ≡ Some g) × Told (Err (in_policy g))

-- an error with its line
abbrev pub on_line : ℕ → AddError → ScriptError
on_line n Memory = script_errors.Memory
on_line n (Fault kind) = script_errors.Fault (record { line = n; kind = kind })
