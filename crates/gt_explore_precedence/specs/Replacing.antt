-- Expressions with other terms in place of terms of order.
use Rattle.std.specs.Prelude.{ℕ, ◌+◌, ◌==◌, ◌||◌, ◌++◌, Bool, true, false, List, [], ◌∷◌, Option, Some, None, codes}
use Rattle.std.specs.Prelude.{if◌then◌else◌, slice_get}
use Rattle.gt_explore_precedence.specs.Terms.{has_precedence}

-- `&`, `|`, `!`, `(` or `)`
abbrev pub is_join : ℕ → Bool
is_join b = (b == 38) || (b == 124) || (b == 33) || (b == 40) || (b == 41)

-- 1 for a term of order, 0 for another
abbrev pub order_count : List ℕ → ℕ
order_count term = if has_precedence term then 1 else 0

-- a term that each text meets, or none; or one that some meet
abbrev pub term_of_truth : Option Bool → List ℕ
term_of_truth (Some true) = codes "(ok|!ok)"
term_of_truth (Some false) = codes "(ok&!ok)"
term_of_truth None = codes "ok"

-- a term, or what is in place of it if it is one of order
abbrev pub term_in_place : Option Bool → List ℕ → List ℕ
term_in_place truth term = if has_precedence term then term_of_truth truth else term

-- what is made of an expression from here on, if this is the beginning of its next term, and so many terms of order are
-- before it
abbrev pub replaced_from : List Bool → ℕ → List ℕ → List ℕ → List ℕ
replaced_from held orders term [] = term_in_place (slice_get held orders) term
replaced_from held orders term (b ∷ bs) =
    if is_join b
    then term_in_place (slice_get held orders) term ++ b ∷ replaced_from held (orders + order_count term) [] bs
    else replaced_from held orders (term ++ b ∷ []) bs
