-- Claims as they are stated: one in each line of a text.
use Rattle.std.specs.Prelude.{◌≡◌, ◌⊎◌, ℕ, ◌+◌, ◌==◌, List, [], ◌∷◌, Option, Some, None, codes, if◌then◌else◌, length}
use Rattle.std.specs.Prelude.{nat_lt}
use Rattle.std.specs.List.{after_first, before_first, flat_map, position_or_len}
use Rattle.std.specs.Option.{option_to_list}
use Rattle.std.specs.Str.{bytes_eq}
use Rattle.gt_explore_faults.specs.Faults.{claims_memory}
use Rattle.gt_explore_faults.specs.declared.claims.ClaimsFault.{ClaimsFault}
use Rattle.gt_explore_faults.specs.declared.claims.ClaimsFault.TheVariants as claims_faults
use Rattle.gt_explore_verdict.specs.declared.judging.Claim.{Claim}
use Rattle.gt_explore_verdict.specs.declared.judging.Claim.TheVariants.{Find, Never, Always}
use Rattle.gt_explore_claims.specs.declared.stated.StatedClaim.{StatedClaim}

-- a claim: its kind and its expression
pub record Stated : Type 0 where
  pub claim : Claim
  pub expression : List ℕ

abbrev pub stated : StatedClaim → Stated
stated s = record { claim = s.claim; expression = s.expression.now }

-- the word by which a claim of a kind is stated
abbrev pub claim_name : Claim → List ℕ
claim_name Find = codes "find"
claim_name Never = codes "never"
claim_name Always = codes "always"

abbrev pub kind_named : List ℕ → Option Claim
kind_named word = if bytes_eq word (codes "find") then Some Find
    else (if bytes_eq word (codes "never") then Some Never
    else (if bytes_eq word (codes "always") then Some Always else None))

-- a claim of the kind of a word, if it is one
abbrev pub stated_by : Option Claim → List ℕ → Option Stated
stated_by None expression = None
stated_by (Some claim) expression = Some (record { claim = claim; expression = expression })

-- the claim of a line: the word before its first space, and the expression after it
abbrev pub stated_line : List ℕ → Option Stated
stated_line line =
    if nat_lt (position_or_len (λ b. b == 32) line) (length line)
    then stated_by (kind_named (before_first (λ b. b == 32) line)) (after_first (λ b. b == 32) line)
    else None

-- the number of the first line that states no claim, if the first of these lines has this number
abbrev pub unstated_at : Option Stated → ℕ → Option ℕ → Option ℕ
unstated_at None number later = Some number
unstated_at (Some claim) number later = later

abbrev pub first_unstated : ℕ → List (List ℕ) → Option ℕ
first_unstated number [] = None
first_unstated number (line ∷ lines) = unstated_at (stated_line line) number (first_unstated (number + 1) lines)

-- the claims of these lines, each of which states one
pub record IsStatedAs (lines : List (List ℕ)) (claims : List Stated) : Type 0 where
  pub each : first_unstated 1 lines ≡ None
  pub claims_are : claims ≡ flat_map (λ line. option_to_list (stated_line line)) lines

-- the fault of such lines: the first that states no claim, or an allocation failed
abbrev pub IsUnstatedFault : List (List ℕ) → ClaimsFault → Type 0
IsUnstatedFault lines fault =
    (fault ≡ claims_memory)
    ⊎ ((number : ℕ) × (fault ≡ claims_faults.Kind number) × (first_unstated 1 lines ≡ Some number))
