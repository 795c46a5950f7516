-- The different lines of a column: each of its lines is one, once, and their counts are those of all.
use Rattle.std.proofs.Common.{◌≡◌, ◌∙◌, ◌+◌, ◌++◌, ◌||◌, ℕ, Bool, true, false, List, [], ◌∷◌, length, refl, sym, ap, arith, cond}
use Rattle.std.specs.Prelude.{fold, sum_by}
use Rattle.std.specs.Str.{bytes_eq}
use Rattle.std.proofs.lemmas.List.Folds.{list_any-append}
use Rattle.std.proofs.lemmas.List.Sums.{sum_by-cons, sum_by_push}
use Rattle.std.proofs.lemmas.Slice.Eq.{bytes_eq-Decides}
use Rattle.gt_explore_summary.specs.Counts.{AreItsLines, count_of_line, different_lines, is_among_lines, with_new_line}

-- ---- tests of lines

same_line : (v : List ℕ) → bytes_eq v v ≡ true
same_line v = (bytes_eq-Decides v v).1 refl

line_swap : (v w : List ℕ) → bytes_eq v w ≡ bytes_eq w v
line_swap v w = go (bytes_eq v w) (bytes_eq w v) refl refl
  where
    go : (b c : Bool) → bytes_eq v w ≡ b → bytes_eq w v ≡ c → b ≡ c
    go true c e f = sym ((bytes_eq-Decides w v).1 (sym ((bytes_eq-Decides v w).0 e))) ∙ f
    go false true e f = sym e ∙ (bytes_eq-Decides v w).1 (sym ((bytes_eq-Decides w v).0 f))
    go false false e f = refl

or_false : (b : Bool) → (b || false) ≡ b
or_false true = refl
or_false false = refl

or_true : (b : Bool) → (b || true) ≡ true
or_true true = refl
or_true false = refl

or_apart : (a b c : Bool) → ((a || b) || c) ≡ (a || (b || c))
or_apart true b c = refl
or_apart false b c = refl

-- ---- a line more

-- a line is among these and one more
among_push : (lines : List (List ℕ)) (x y : List ℕ) → is_among_lines (lines ++ x ∷ []) y ≡ (is_among_lines lines y || bytes_eq x y)
among_push lines x y =
    list_any-append (λ o. bytes_eq o y) lines (x ∷ []) ∙ ap (λ (b : Bool). is_among_lines lines y || b) (or_false (bytes_eq x y))

-- if a line is there, each line that is the same is there
there : (lines : List (List ℕ)) (x y : List ℕ) (b : Bool) → bytes_eq x y ≡ b → is_among_lines lines x ≡ true → is_among_lines lines y ≡ (is_among_lines lines y || b)
there lines x y true e has =
    let is : x ≡ y = (bytes_eq-Decides x y).0 e in
    (ap (λ (l : List ℕ). is_among_lines lines l) (sym is) ∙ has) ∙ sym (or_true (is_among_lines lines y))
there lines x y false e has = sym (or_false (is_among_lines lines y))

among_with : (lines : List (List ℕ)) (x y : List ℕ) → is_among_lines (with_new_line lines x) y ≡ (is_among_lines lines y || bytes_eq x y)
among_with lines x y = by (is_among_lines lines x) refl
  where
    by : (b : Bool) → is_among_lines lines x ≡ b → is_among_lines (cond b lines (lines ++ x ∷ [])) y ≡ (is_among_lines lines y || bytes_eq x y)
    by true e = there lines x y (bytes_eq x y) refl e
    by false e = among_push lines x y

-- a line is among the different lines if it was there, or is one of the column
among_fold : (lines column : List (List ℕ)) (y : List ℕ) → is_among_lines (fold with_new_line lines column) y ≡ (is_among_lines lines y || is_among_lines column y)
among_fold lines [] y = sym (or_false (is_among_lines lines y))
among_fold lines (x ∷ column) y =
    among_fold (with_new_line lines x) column y
    ∙ ap (λ (b : Bool). b || is_among_lines column y) (among_with lines x y)
    ∙ or_apart (is_among_lines lines y) (bytes_eq x y) (is_among_lines column y)

-- ---- each once

abbrev IsOnce : List (List ℕ) → Type 0
IsOnce lines = (y : List ℕ) → count_of_line y lines ≡ cond (is_among_lines lines y) 1 0

once_more : (lines : List (List ℕ)) (x y : List ℕ) (a b : Bool) → is_among_lines lines x ≡ false → is_among_lines lines y ≡ a → bytes_eq x y ≡ b → cond a 1 0 + cond b 1 0 ≡ cond (a || b) 1 0
once_more lines x y true true none here e =
    let is : x ≡ y = (bytes_eq-Decides x y).0 e in
    let clash : true ≡ false = sym here ∙ ap (λ (l : List ℕ). is_among_lines lines l) (sym is) ∙ none in
    absurd (cc)
once_more lines x y true false none here e = refl
once_more lines x y false true none here e = refl
once_more lines x y false false none here e = refl

once_with : (lines : List (List ℕ)) (x : List ℕ) → IsOnce lines → IsOnce (with_new_line lines x)
once_with lines x once y = by (is_among_lines lines x) refl
  where
    by : (b : Bool) → is_among_lines lines x ≡ b → count_of_line y (cond b lines (lines ++ x ∷ [])) ≡ cond (is_among_lines (cond b lines (lines ++ x ∷ [])) y) 1 0
    by true e = once y
    by false e =
        sum_by_push (λ o. cond (bytes_eq o y) 1 0) lines x
        ∙ ap (λ (n : ℕ). n + cond (bytes_eq x y) 1 0) (once y)
        ∙ once_more lines x y (is_among_lines lines y) (bytes_eq x y) e refl refl
        ∙ ap (λ (b : Bool). cond b 1 0) (sym (among_push lines x y))

once_fold : (lines column : List (List ℕ)) → IsOnce lines → IsOnce (fold with_new_line lines column)
once_fold lines [] once = once
once_fold lines (x ∷ column) once = once_fold (with_new_line lines x) column (once_with lines x once)

-- ---- the counts together

module _ {X : Type 0} where
  sum_both : (f g : X → ℕ) (xs : List X) → sum_by (λ x. f x + g x) xs ≡ sum_by f xs + sum_by g xs
  sum_both f g [] = refl
  sum_both f g (x ∷ xs) =
      let both = sum_by-cons (λ (y : X). f y + g y) x xs in
      let one = sum_by-cons f x xs in
      let other = sum_by-cons g x xs in
      let rest = sum_both f g xs in
      omega (arith, both, one, other, rest)

  sum_same : (f g : X → ℕ) → ((x : X) → f x ≡ g x) → (xs : List X) → sum_by f xs ≡ sum_by g xs
  sum_same f g same [] = refl
  sum_same f g same (x ∷ xs) =
      let one = sum_by-cons f x xs in
      let other = sum_by-cons g x xs in
      let first = same x in
      let rest = sum_same f g same xs in
      omega (arith, one, other, first, rest)

  sum_none : (xs : List X) → sum_by (λ x. 0) xs ≡ 0
  sum_none [] = refl
  sum_none (x ∷ xs) =
      let one = sum_by-cons (λ (y : X). 0) x xs in
      let rest = sum_none xs in
      omega (arith, one, rest)

-- the counts of some lines in a column are those of its lines among them
turned : (lines column : List (List ℕ)) → sum_by (λ line. count_of_line line column) lines ≡ sum_by (λ y. count_of_line y lines) column
turned lines [] = sum_none lines
turned lines (y ∷ column) =
    sum_same (λ line. count_of_line line (y ∷ column)) (λ line. cond (bytes_eq y line) 1 0 + count_of_line line column)
    (λ line. sum_by-cons (λ o. cond (bytes_eq o line) 1 0) y column) lines
    ∙ sum_both (λ line. cond (bytes_eq y line) 1 0) (λ line. count_of_line line column) lines
    ∙ ap (λ (n : ℕ). n + sum_by (λ line. count_of_line line column) lines)
    (sum_same (λ line. cond (bytes_eq y line) 1 0) (λ line. cond (bytes_eq line y) 1 0) (λ line. ap (λ (b : Bool). cond b 1 0) (line_swap y line)) lines)
    ∙ ap (λ (n : ℕ). count_of_line y lines + n) (turned lines column)
    ∙ sym (sum_by-cons (λ z. count_of_line z lines) y column)

-- if each line of a column is there once, there are as many as it has
one_each : (lines column : List (List ℕ)) → ((y : List ℕ) → is_among_lines column y ≡ true → count_of_line y lines ≡ 1) → sum_by (λ y. count_of_line y lines) column ≡ length column
one_each lines [] once = refl
one_each lines (x ∷ column) once =
    let more = sum_by-cons (λ z. count_of_line z lines) x column in
    let here : count_of_line x lines ≡ 1 = once x (ap (λ (b : Bool). b || is_among_lines column x) (same_line x)) in
    let rest : sum_by (λ y. count_of_line y lines) column ≡ length column =
    one_each lines column (λ y has. once y (ap (λ (b : Bool). bytes_eq x y || b) has ∙ or_true (bytes_eq x y))) in
    omega (arith, more, here, rest)

-- ---- the law

none_once : IsOnce []
none_once y = refl

pub are_its_lines : (column : List (List ℕ)) → AreItsLines column (different_lines column)
are_its_lines column = record {
  each = λ y. among_fold [] column y;
  once = once;
  all = turned (different_lines column) column
      ∙ one_each (different_lines column) column (λ y has. once y (among_fold [] column y ∙ has));
}
  where
    once : (y : List ℕ) → is_among_lines (different_lines column) y ≡ true → count_of_line y (different_lines column) ≡ 1
    once y has = once_fold [] column none_once y ∙ ap (λ (b : Bool). cond b 1 0) has
