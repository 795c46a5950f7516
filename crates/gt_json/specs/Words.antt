-- Words, and how they are split.
use Rattle.std.specs.Prelude.{ℕ, ◌==◌, ◌&&◌, not, Bool, false, List, [], ◌∷◌, Option, Some, None, if◌then◌else◌}
use Rattle.std.specs.Char.{is_ascii_digit}
use Rattle.std.specs.List.{list_all}
use Rattle.std.specs.Option.{option_map}

-- the word is a rule: it begins with `N`
unfoldable pub begins_as_rule : List ℕ → Bool
begins_as_rule [] = false
begins_as_rule (b ∷ bs) = b == 78

-- the word is a natural number: one digit, or more of which the first is not 0 (RFC 8259, section 6)
unfoldable pub is_natural : List ℕ → Bool
is_natural [] = false
is_natural (b ∷ []) = is_ascii_digit b
is_natural (b ∷ c ∷ bs) = (is_ascii_digit b && not (b == 48)) && list_all is_ascii_digit (c ∷ bs)

-- the word is a whole number: a natural one, after a minus or not (RFC 8259, section 6)
unfoldable pub is_number : List ℕ → Bool
is_number [] = false
is_number (b ∷ bs) = if b == 45 then is_natural bs else is_natural (b ∷ bs)

-- the bytes before the first `=`, and those after it
unfoldable pub at_equals : List ℕ → Option (List ℕ × List ℕ)
at_equals [] = None
at_equals (b ∷ bs) = if b == 61 then Some ([], bs) else option_map (λ parts. (b ∷ parts.0, parts.1)) (at_equals bs)
