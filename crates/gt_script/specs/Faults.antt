-- The texts of faults.
use Rattle.std.specs.Prelude.{ℕ, List, ◌++◌, codes}
use Rattle.std.specs.Fmt.{decimal}
use Rattle.gt_policy.specs.declared.parse.PolicyFaultKind as policy
use Rattle.gt_policy.specs.declared.parse.PolicyFaultKind.TheVariants as policy_fault_kinds
use Rattle.gt_policy.specs.Texts.{fault_text as policy_fault_text}
use Rattle.gt_script.specs.declared.faults.ScriptFaultKind.{ScriptFaultKind}
use Rattle.gt_script.specs.declared.faults.ScriptFaultKind.TheVariants.{Limit, Utf8, Syntax, Config, Mode, Stuck}
use Rattle.gt_script.specs.declared.faults.ScriptFault.{ScriptFault}
use Rattle.gt_script.specs.declared.faults.ScriptError.{ScriptError}
use Rattle.gt_script.specs.declared.faults.ScriptError.TheVariants.{Memory}
use Rattle.gt_script.specs.declared.faults.ScriptError.TheVariants as script_errors

-- the word of a kind of fault
abbrev pub fault_word : ScriptFaultKind → List ℕ
fault_word Limit = codes "limit"
fault_word Utf8 = codes "utf8"
fault_word Syntax = codes "syntax"
fault_word Config = codes "config"
fault_word Mode = codes "mode"
fault_word Stuck = codes "stuck"

-- a fault with its line
abbrev pub script_fault_text : ScriptFault → List ℕ
script_fault_text f = codes "line " ++ decimal f.line ++ codes ": " ++ fault_word f.kind

-- the text of an error: a fault of the policy block has its line in the script
abbrev pub error_text : ScriptError → List ℕ
error_text Memory = codes "memory"
error_text (script_errors.Fault f) = script_fault_text f
error_text (script_errors.Policy f) = policy_fault_text f.line f.kind

-- the error for a kind of fault of a policy, on this line of a script
abbrev pub error_in_block : ℕ → policy.PolicyFaultKind → ScriptError
error_in_block line policy_fault_kinds.Memory = Memory
error_in_block line policy_fault_kinds.Syntax =
    script_errors.Policy (record { line = line; kind = policy_fault_kinds.Syntax })
error_in_block line (policy_fault_kinds.Unknown name) =
    script_errors.Policy (record { line = line; kind = policy_fault_kinds.Unknown name })
error_in_block line (policy_fault_kinds.Twice name) =
    script_errors.Policy (record { line = line; kind = policy_fault_kinds.Twice name })
error_in_block line (policy_fault_kinds.Permission name) =
    script_errors.Policy (record { line = line; kind = policy_fault_kinds.Permission name })
error_in_block line (policy_fault_kinds.Outside word) =
    script_errors.Policy (record { line = line; kind = policy_fault_kinds.Outside word })
error_in_block line policy_fault_kinds.Limit =
    script_errors.Policy (record { line = line; kind = policy_fault_kinds.Limit })
