-- The name of a call: `as NAME` at the end of its line.
use Rattle.std.specs.Prelude.{ℕ, ◌-◌, List, [], ◌∷◌, Option, None, codes, drop, if◌then◌else◌, is_some, length, take}
use Rattle.std.specs.Str.{bytes_eq}
use Rattle.gt_script_lines.specs.Fields.{label_word, text_where}

-- `as NAME`, where NAME has the form of a label
unfoldable pub as_name : List (List ℕ) → Option (List ℕ)
as_name (mark ∷ name ∷ []) = if bytes_eq mark (codes "as") then text_where label_word name else None
as_name _ = None

-- the name of a call, if its last two words are one
abbrev pub given_name : List (List ℕ) → Option (List ℕ)
given_name words = as_name (drop (length words - 2) words)

-- the words of a call without its name
abbrev pub unnamed : List (List ℕ) → List (List ℕ)
unnamed words = if is_some (given_name words) then take (length words - 2) words else words
