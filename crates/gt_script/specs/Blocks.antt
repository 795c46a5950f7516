-- The policy block of a script.
use Rattle.std.specs.Prelude.{◌≡◌, ◌+◌, ℕ, suc, Bool, false, List, [], ◌∷◌, ◌++◌, length, Option, Some, None, Result}
use Rattle.std.specs.Prelude.{Ok, Err, codes, flat_map, if◌then◌else◌, ◌==◌}
use Rattle.std.specs.Option.{option_map}
use Rattle.std.specs.Str.{bytes_eq}
use Rattle.gt_policy.specs.Allowing.{Meaning, Allowed, allowed_by}
use Rattle.gt_policy.specs.Kept.{KeptPolicy, allowed_of}
use Rattle.gt_policy.specs.Shown.{kind_shown}
use Rattle.gt_policy.specs.Whole.{ReadsAs}
use Rattle.gt_policy.specs.declared.fault.TokenFault as policy
use Rattle.gt_script_lines.specs.Words.{words}
use Rattle.gt_script.specs.declared.faults.BlockFault.{BlockFault}
use Rattle.gt_script.specs.declared.faults.ScriptError.{ScriptError}
use Rattle.gt_script.specs.declared.faults.ScriptError.TheVariants as script_errors

-- the words of a line are exactly this one
abbrev pub is_just : List ℕ → List (List ℕ) → Bool
is_just word [] = false
is_just word (w ∷ []) = bytes_eq w word
is_just word (w ∷ v ∷ ws) = false

-- the index of the line `policy`, if it is the first line with words
abbrev pub opening : List (List ℕ) → Option ℕ
opening [] = None
opening (l ∷ ls) = if length (words l) == 0 then option_map (λ n. suc n) (opening ls)
    else (if is_just (codes "policy") (words l) then Some 0 else None)

-- the index of the first line `end`
abbrev pub closing : List (List ℕ) → Option ℕ
closing [] = None
closing (l ∷ ls) = if is_just (codes "end") (words l) then Some 0 else option_map (λ n. suc n) (closing ls)

-- a line with its line feed
abbrev pub closed_block : List ℕ → List ℕ
closed_block line = line ++ 10 ∷ []

-- the text of a policy: the lines of its block, each with a line feed
abbrev pub block_text : List (List ℕ) → List ℕ
block_text lines = flat_map closed_block lines

-- a fault of a policy whose text follows this number of lines
abbrev pub fault_in_block : ℕ → policy.TokenFault → policy.TokenFault
fault_in_block before f = record { line = before + f.line; kind = f.kind }

-- the fault of the text; none if an allocation failed
abbrev pub block_fault_shown : BlockFault → Option policy.TokenFault
block_fault_shown e = option_map (λ k. record { line = e.line; kind = k }) (kind_shown e.kind)

-- the block means these types and what they may do to one another
abbrev pub BlockMeans : List (List ℕ) → Allowed → Type 0
BlockMeans lines a = (m : Meaning) × ReadsAs (block_text lines) (Ok m) × (a ≡ allowed_by m)

-- the block, after this number of lines, has this first fault
abbrev pub IsFaultyBlock : ℕ → List (List ℕ) → policy.TokenFault → Type 0
IsFaultyBlock before lines g =
    (f : policy.TokenFault) × ReadsAs (block_text lines) (Err f) × (g ≡ fault_in_block before f)

-- the policy of a block or its fault, unless an allocation failed
abbrev pub IsPolicyOf : ℕ → List (List ℕ) → Result KeptPolicy ScriptError → Type 0
IsPolicyOf before lines (Ok p) = BlockMeans lines (allowed_of p)
IsPolicyOf before lines (Err script_errors.Memory) = Unit {0}
IsPolicyOf before lines (Err (script_errors.Fault f)) = ⊥
IsPolicyOf before lines (Err (script_errors.Policy e)) =
    (g : policy.TokenFault) × (block_fault_shown e ≡ Some g) × IsFaultyBlock before lines g
