-- The texts of faults.
use Rattle.std.specs.Prelude.{ℕ, List, ◌++◌, codes, string_bytes}
use Rattle.std.specs.Fmt.{decimal}
use Rattle.gt_policy.specs.declared.parse.PolicyFaultKind.{PolicyFaultKind}
use Rattle.gt_policy.specs.declared.parse.PolicyFaultKind.TheVariants.{Syntax, Unknown, Twice, Permission, Outside}
use Rattle.gt_policy.specs.declared.parse.PolicyFaultKind.TheVariants.{Limit, Memory}

-- the text of a kind of fault: its word, and the name or mark at fault
abbrev pub kind_text : PolicyFaultKind → List ℕ
kind_text Syntax = codes "syntax"
kind_text (Unknown name) = codes "unknown " ++ string_bytes name
kind_text (Twice name) = codes "twice " ++ string_bytes name
kind_text (Permission name) = codes "permission " ++ string_bytes name
kind_text (Outside word) = codes "outside " ++ string_bytes word
kind_text Limit = codes "limit"
kind_text Memory = codes "memory"

-- the text of a fault of this kind on this line: `line L: policy KIND`
abbrev pub fault_text : ℕ → PolicyFaultKind → List ℕ
fault_text line kind = codes "line " ++ decimal line ++ codes ": policy " ++ kind_text kind
