-- The numbers of the types.
use Rattle.std.specs.Prelude.{◌≡◌, ℕ, List, [], ◌∷◌, ◌++◌, length, nat_lt, Option, Some, None, position}
use Rattle.std.specs.Prelude.{if◌then◌else◌, Result, Ok, Err}
use Rattle.std.specs.Str.{bytes_eq}
use Rattle.gt_types.specs.declared.TypeId.{TypeId}
use Rattle.gt_script.specs.declared.faults.AddError.{AddError}
use Rattle.gt_script.specs.declared.faults.AddError.TheVariants.{Memory, Fault}
use Rattle.gt_script.specs.declared.faults.ScriptFaultKind.TheVariants.{Config}

-- the names with this one among them, and its number, the index of the name; none if it would be the 257th
unfoldable pub with_type_name : List (List ℕ) → List ℕ → Option (List (List ℕ) × TypeId)
with_type_name names name = elim (position (λ t. bytes_eq t name) names) [
  | Some i ↦ Some (names, record { 0 = i })
  | None ↦ if nat_lt (length names) 256 then Some (names ++ name ∷ [], record { 0 = length names }) else None
]

-- a name has this number, and is added if it is new; `config` if it would be the 257th
abbrev pub GivesNumber : List (List ℕ) → List (List ℕ) → List ℕ → Result TypeId AddError → Type 0
GivesNumber old new name (Ok id) = with_type_name old name ≡ Some (new, id)
GivesNumber old new name (Err Memory) = Unit {0}
GivesNumber old new name (Err (Fault kind)) = (with_type_name old name ≡ None) × (kind ≡ Config)
