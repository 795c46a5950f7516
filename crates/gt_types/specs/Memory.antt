-- Results that are specified unless an allocation fails.
use Rattle.std.specs.Prelude.{Option, Result, Ok, Err, IfSome}

-- The result fulfils `says`, unless an allocation failed. An error for which `shown` gives None is a failed
-- allocation, and nothing is claimed about it.
abbrev pub UnlessMemory : {X E F : Type 0} → (E → Option F) → Result X E → (Result X F → Type 0) → Type 0
UnlessMemory shown (Ok x) says = says (Ok x)
UnlessMemory shown (Err e) says = IfSome (shown e) (λ f. says (Err f))
