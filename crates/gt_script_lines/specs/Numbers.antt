-- Decimal numbers.
use Rattle.std.specs.Prelude.{ℕ, ◌+◌, ◌-◌, ◌*◌, ◌^◌, List, [], ◌∷◌, Option, Some, None, nat_lt, if◌then◌else◌}
use Rattle.std.specs.Char.{is_ascii_digit}
use Rattle.std.specs.Option.{option_map}
use Rattle.gt_script_lines.specs.declared.numbers.Number.{Number}
use Rattle.gt_script_lines.specs.declared.numbers.Number.TheVariants.{Small, Huge}

-- a number, exact if it is below 2 ^ 64
abbrev pub number_of : ℕ → Number
number_of n = if nat_lt n (2 ^ 64) then Small n else Huge

-- the number that these digits continue
abbrev pub digits_after : ℕ → List ℕ → Option ℕ
digits_after n [] = Some n
digits_after n (b ∷ bs) = if is_ascii_digit b then digits_after (n * 10 + (b - 48)) bs else None

-- the value of a word of decimal digits, at least one
abbrev pub decimal_value : List ℕ → Option ℕ
decimal_value [] = None
decimal_value (b ∷ bs) = digits_after 0 (b ∷ bs)

-- a word of decimal digits as a number of any size
unfoldable pub decimal_number : List ℕ → Option Number
decimal_number word = option_map number_of (decimal_value word)

-- a number if it is below a limit, of at most 64 bits
abbrev pub number_below : ℕ → Number → Option ℕ
number_below limit (Small n) = if nat_lt n limit then Some n else None
number_below limit Huge = None

-- a number if it is below a limit
abbrev pub below : ℕ → ℕ → Option ℕ
below limit n = if nat_lt n limit then Some n else None
