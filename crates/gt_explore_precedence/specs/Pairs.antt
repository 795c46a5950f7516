-- The calls that terms of order name.
use Rattle.std.specs.Prelude.{◌≡◌, ◌⊎◌, ℕ, ◌+◌, ◌++◌, ◌==◌, ◌&&◌, Bool, true, false, List, [], ◌∷◌, Option, Some, None, Result}
use Rattle.std.specs.Prelude.{Ok, Err, IsTrue, decimal, drop, filter, flat_map, if◌then◌else◌, map, slice_get, take}
use Rattle.std.specs.List.{position, slice_split}
use Rattle.std.specs.Str.{bytes_eq}
use Rattle.gt_call_names.specs.Naming.{numbers_named}
use Rattle.gt_explore_faults.specs.Faults.{claims_memory}
use Rattle.gt_explore_faults.specs.declared.claims.ClaimsFault.{ClaimsFault}
use Rattle.gt_explore_faults.specs.declared.claims.ClaimsFault.TheVariants as claims_faults
use Rattle.gt_explore_faults.specs.declared.claims.PrecedenceFault.TheVariants as precedence_faults
use Rattle.gt_script.specs.Lists.{RunTask}
use Rattle.gt_script.specs.Preceding.{is_call}
use Rattle.gt_script.specs.declared.precedence.Precedence.{Precedence}
use Rattle.gt_explore_precedence.specs.Terms.{has_precedence, is_less}

-- the words of a side

abbrev pub is_side_break : ℕ → Bool
is_side_break b = b == 32

abbrev pub is_nonempty_side : List ℕ → Bool
is_nonempty_side [] = false
is_nonempty_side (b ∷ bs) = true

abbrev pub side_words : List ℕ → List (List ℕ)
side_words side = filter is_nonempty_side (slice_split is_side_break side)

-- the call of a side

-- the line of a task, if it has a call and its number is written so
abbrev pub call_line_if : List ℕ → RunTask → List ℕ
call_line_if number t = if is_call t.run_action && bytes_eq (decimal t.line) number then t.line ∷ [] else []

-- the lines of the calls that a word names or whose number it is, in a script with these lines and tasks
abbrev pub calls_meant : List (List ℕ) → List RunTask → List ℕ → List ℕ
calls_meant lines tasks word = numbers_named word 1 lines ++ flat_map (call_line_if word) tasks

-- the only one of these lines
abbrev pub only_line : List ℕ → Result ℕ ClaimsFault
only_line [] = Err (claims_faults.Precedence precedence_faults.Call)
only_line (line ∷ []) = Ok line
only_line (first ∷ second ∷ lines) = Err (claims_faults.Repeated first second)

-- the line of the call that a side names; it has one word
abbrev pub line_named : List (List ℕ) → List RunTask → List (List ℕ) → Result ℕ ClaimsFault
line_named lines tasks [] = Err (claims_faults.Precedence precedence_faults.Call)
line_named lines tasks (word ∷ []) = only_line (calls_meant lines tasks word)
line_named lines tasks (word ∷ other ∷ words) = Err (claims_faults.Precedence precedence_faults.Call)

abbrev pub line_meant : List (List ℕ) → List RunTask → List ℕ → Result ℕ ClaimsFault
line_meant lines tasks side = line_named lines tasks (side_words side)

-- the calls of a term

abbrev pub pair_from : Result ℕ ClaimsFault → Result ℕ ClaimsFault → Result Precedence ClaimsFault
pair_from (Ok first) (Ok second) = Ok (record { first = first; second = second })
pair_from (Ok first) (Err fault) = Err fault
pair_from (Err fault) second = Err fault

abbrev pub pair_cut : List (List ℕ) → List RunTask → List ℕ → Option ℕ → Result Precedence ClaimsFault
pair_cut lines tasks part None = Err (claims_faults.Precedence precedence_faults.Call)
pair_cut lines tasks part (Some at) =
    pair_from (line_meant lines tasks (take at part)) (line_meant lines tasks (drop (at + 1) part))

-- the lines of the calls that a term such as `12<17` names
abbrev pub pair_meant : List (List ℕ) → List RunTask → List ℕ → Result Precedence ClaimsFault
pair_meant lines tasks part = pair_cut lines tasks part (position is_less part)

-- a fault is that of a result, or an allocation failed
abbrev pub IsSideFault : {X : Type 0} → Result X ClaimsFault → ClaimsFault → Type 0
IsSideFault {X} r fault = (fault ≡ claims_memory) ⊎ (r ≡ Err fault)

-- the calls of all terms

-- these are the calls that the terms of order among these parts name
abbrev pub ArePairs : List (List ℕ) → List RunTask → List (List ℕ) → List Precedence → Type 0
ArePairs lines tasks parts pairs = map (pair_meant lines tasks) (filter has_precedence parts) ≡ map Ok pairs

-- a part was passed, or it is a term of order and its pair was added
abbrev pub AddsPair : List (List ℕ) → List RunTask → List ℕ → List Precedence → List Precedence → Type 0
AddsPair lines tasks part old new =
    map Ok new ≡ map Ok old ++ map (pair_meant lines tasks) (filter has_precedence (part ∷ []))

-- the part is a term of order, and the fault is that of its calls, or an allocation failed
abbrev pub IsPartFault : List (List ℕ) → List RunTask → List ℕ → ClaimsFault → Type 0
IsPartFault lines tasks part fault = IsTrue (has_precedence part) × IsSideFault (pair_meant lines tasks part) fault

-- the fault is that of the first term of order that does not name two calls
pub record IsFirstOrderFault (lines : List (List ℕ)) (tasks : List RunTask) (parts : List (List ℕ)) (fault : ClaimsFault) : Type 0 where
  pub at : ℕ
  pub part : List ℕ
  pub there : slice_get parts at ≡ Some part
  pub order : IsTrue (has_precedence part)
  pub wrong : pair_meant lines tasks part ≡ Err fault
  pub pairs : List Precedence
  pub before : ArePairs lines tasks (take at parts) pairs

abbrev pub IsPairsFault : List (List ℕ) → List RunTask → List (List ℕ) → ClaimsFault → Type 0
IsPairsFault lines tasks parts fault = (fault ≡ claims_memory) ⊎ IsFirstOrderFault lines tasks parts fault
