-- Errors of the parser as faults of the text.
use Rattle.std.specs.Prelude.{Option, Some, None, Result, Ok, Err}
use Rattle.gt_policy.specs.declared.fault.TokenFault.{TokenFault}
use Rattle.gt_policy.specs.declared.fault.ReadError.{ReadError}
use Rattle.gt_policy.specs.declared.fault.ReadError.TheVariants as read_errors

-- the fault of an error; none if an allocation failed
abbrev pub fault_in : ReadError → Option TokenFault
fault_in read_errors.Memory = None
fault_in (read_errors.Fault f) = Some f

-- the value that was read, with the tokens after it
abbrev pub with_rest : {X Y : Type 0} → (X → Y) → Result X TokenFault → Result Y TokenFault
with_rest behind (Ok x) = Ok (behind x)
with_rest behind (Err f) = Err f
