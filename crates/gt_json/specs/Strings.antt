-- JSON strings and values.
use Rattle.std.specs.Prelude.{◌≢◌, ◌<◌, ◌≤◌, ℕ, ◌+◌, ◌/◌, ◌%◌, ◌==◌, ◌&&◌, ◌||◌, not, nat_lt, Bool, List, [], ◌∷◌}
use Rattle.std.specs.Prelude.{◌++◌, codes, if◌then◌else◌}
use Rattle.std.specs.List.{flat_map}
use Rattle.std.specs.Str.{bytes_eq}
use Rattle.gt_json.specs.Words.{is_number}

-- the hexadecimal digit of a number below 16
abbrev pub hex_digit : ℕ → ℕ
hex_digit n = if nat_lt n 10 then 48 + n else 87 + n

-- a byte of a string: quotes, backslashes and control characters are escaped (RFC 8259, section 7)
abbrev pub escaped : ℕ → List ℕ
escaped b = if (b == 34) || (b == 92) then 92 ∷ b ∷ []
    else (if nat_lt b 32 then 92 ∷ 117 ∷ 48 ∷ 48 ∷ hex_digit (b / 16) ∷ hex_digit (b % 16) ∷ [] else b ∷ [])

-- a text as a string (RFC 8259, section 7)
unfoldable pub quoted : List ℕ → List ℕ
quoted text = codes "\"" ++ flat_map escaped text ++ codes "\""

-- What is between the quotes of a string encodes a text: a byte from 32 up encodes itself, unless it is a quote or a
-- backslash; a backslash before a quote or a backslash encodes that one, and a backslash before `u00` and two
-- hexadecimal digits encodes the byte of that number (RFC 8259, section 7)
pub data SpellsString : List ℕ → List ℕ → Type 0 where
  ends : SpellsString [] []
  itself : (b : ℕ) (xs text : List ℕ) → 32 ≤ b → b ≢ 34 → b ≢ 92 → SpellsString xs text
      → SpellsString (b ∷ xs) (b ∷ text)
  quote : (xs text : List ℕ) → SpellsString xs text → SpellsString (92 ∷ 34 ∷ xs) (34 ∷ text)
  backslash : (xs text : List ℕ) → SpellsString xs text → SpellsString (92 ∷ 92 ∷ xs) (92 ∷ text)
  number : (b : ℕ) (xs text : List ℕ) → b < 256 → SpellsString xs text
      → SpellsString (92 ∷ 117 ∷ 48 ∷ 48 ∷ hex_digit (b / 16) ∷ hex_digit (b % 16) ∷ xs) (b ∷ text)

-- a word as a value: a number if it is one and is not hexadecimal, null for `-`, and else a string
abbrev pub value_text : Bool → List ℕ → List ℕ
value_text is_hex w = if not is_hex && is_number w then w
    else (if bytes_eq w (codes "-") then codes "null" else quoted w)
