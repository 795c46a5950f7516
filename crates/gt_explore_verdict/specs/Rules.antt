-- Words that are rules or numbers, and words with a mark.
use Rattle.std.specs.Prelude.{ℕ, ◌==◌, ◌&&◌, ◌||◌, not, Bool, false, List, [], ◌∷◌, nat_le, Option, Some, None}
use Rattle.std.specs.Prelude.{if◌then◌else◌}
use Rattle.std.specs.Option.{option_map}
use Rattle.std.specs.Char.{is_ascii_digit}
use Rattle.std.specs.List.{list_all}

-- a word is a number: digits only, and at least one
unfoldable pub is_decimal_number : List ℕ → Bool
is_decimal_number [] = false
is_decimal_number (b ∷ bs) = list_all is_ascii_digit (b ∷ bs)

-- a word is one of N1 to N26
unfoldable pub is_rule : List ℕ → Bool
is_rule [] = false
is_rule (letter ∷ []) = false
is_rule (letter ∷ digit ∷ []) = (letter == 78) && nat_le 49 digit && nat_le digit 57
is_rule (letter ∷ ten ∷ digit ∷ []) =
    (letter == 78) && nat_le 48 digit && (((ten == 49) && nat_le digit 57) || ((ten == 50) && nat_le digit 54))
is_rule (letter ∷ ten ∷ digit ∷ more ∷ rest) = false

-- a word is written as a rule: the letter N, in either case, and a number
unfoldable pub looks_like_rule : List ℕ → Bool
looks_like_rule [] = false
looks_like_rule (letter ∷ number) = ((letter == 78) || (letter == 110)) && is_decimal_number number

-- a word is written as a rule, and is none
abbrev pub is_wrong_rule : List ℕ → Bool
is_wrong_rule word = looks_like_rule word && not (is_rule word)

-- the bytes before the first such mark, and those after it
unfoldable pub at_mark : ℕ → List ℕ → Option (List ℕ × List ℕ)
at_mark mark [] = None
at_mark mark (b ∷ bs) =
    if b == mark then Some ([], bs) else option_map (λ parts. (b ∷ parts.0, parts.1)) (at_mark mark bs)
