-- What a handle owns.
use Rattle.std.specs.Prelude.{Option, Some, None}
use base.Fml.{Fml, ftrue}

-- what is owned by a value that may be absent
abbrev pub owned : {X : Type 0} → (X → Fml) → Option X → Fml
owned owns (Some x) = owns x
owned owns None = ftrue
