-- The parts of an expression between its `&`: terms of order such as `12<17`, and the others.
use Rattle.std.specs.Prelude.{ℕ, suc, ◌-◌, nat_le, ◌==◌, ◌||◌, ◌++◌, Bool, List, [], ◌∷◌, codes, flat_map, if◌then◌else◌}
use Rattle.std.specs.List.{list_any, slice_split}

-- `<`
abbrev pub is_less : ℕ → Bool
is_less b = b == 60

-- `&`
abbrev pub is_and : ℕ → Bool
is_and b = b == 38

-- `|`, `(` or `)`
abbrev pub is_other_mark : ℕ → Bool
is_other_mark b = (b == 124) || (b == 40) || (b == 41)

-- `!`
abbrev pub is_not : ℕ → Bool
is_not b = b == 33

-- a part has `!`
abbrev pub has_not : List ℕ → Bool
has_not part = list_any is_not part

-- an expression, or a part of one, has a term of order
abbrev pub has_precedence : List ℕ → Bool
has_precedence text = list_any is_less text

-- its terms are not all joined by `&`
abbrev pub has_other_mark : List ℕ → Bool
has_other_mark expression = list_any is_other_mark expression

-- a part with a `&` behind it, unless it is a term of order
abbrev pub plain_part : List ℕ → List ℕ
plain_part part = if has_precedence part then [] else part ++ 38 ∷ []

-- an expression without its terms of order; what is behind its last `&` holds of each text
abbrev pub rest_of : List (List ℕ) → List ℕ
rest_of parts = flat_map plain_part parts ++ codes "(ok|!ok)"

-- how many terms of order are before the other term of this number
abbrev pub orders_before : List (List ℕ) → ℕ → ℕ
orders_before [] number = 0
orders_before (part ∷ parts) number =
    if has_precedence part then suc (orders_before parts number)
    else (if nat_le number 1 then 0 else orders_before parts (number - 1))

-- the parts of an expression
abbrev pub parts_between : List ℕ → List (List ℕ)
parts_between expression = slice_split is_and expression
