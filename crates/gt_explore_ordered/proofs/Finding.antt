-- The search for the call of a line in a list.
use Rattle.std.proofs.Common.{◌≡◌, ◌∙◌, ◌+◌, ◌<◌, ◌≤◌, ap, refl, sym, subst, arith, ℕ, zero, suc, Bool, true, false, List, [], ◌∷◌, ◌++◌, map, length, take, drop, Option, Some, None, get_or}
use Rattle.std.proofs.lemmas.Option.{get_or_from_slice_get, none-some, slice_get-get_or, slice_get_within}
use Rattle.std.proofs.Math.Bool.{cond}
use Rattle.std.specs.List.{position_from}
use Rattle.std.specs.Prelude.{if◌then◌else◌, slice_get}
use Rattle.gt_explore_search.specs.Parts.{Pairwise}
use Rattle.gt_script.specs.Lists.{RunTask}
use Rattle.gt_script.specs.Preceding.{is_call}
use Rattle.gt_precedence.proofs.Lists.{count-append}
use Rattle.gt_precedence.specs.Precedence.{calls_of}
use Rattle.gt_explore_ordered.specs.Places.{HasNoCall, IsFirstCall, IsFirstIn, is_call_of}
use Rattle.gt_explore_ordered.specs.declared.places.CallPlace.{CallPlace}
use Rattle.gt_explore_ordered.proofs.Counts.{calls-with}
use Rattle.gt_explore_ordered.proofs.Reading.{drop-next, take-next}

-- the tasks before this index are passed: the call is among those that are left
pub record IsPassed (line : ℕ) (tasks : List RunTask) (index before : ℕ) : Type 0 where
  pub left : position_from (is_call_of line) 0 tasks ≡ position_from (is_call_of line) index (drop index tasks)
  pub calls : before ≡ length (calls_of (take index tasks))

module _ (line : ℕ) (tasks : List RunTask) (index before : ℕ) (passed : IsPassed line tasks index before) where
  none-left : (ts : List RunTask) (i : ℕ) → slice_get ts i ≡ None → drop i ts ≡ []
  none-left [] zero none = refl
  none-left [] (suc i) none = refl
  none-left (t ∷ ts) zero none = absurd (none-some t (sym none))
  none-left (t ∷ ts) (suc i) none = none-left ts i none

  -- at the end
  pub not-there : slice_get tasks index ≡ None → position_from (is_call_of line) 0 tasks ≡ None
  not-there none = passed.left ∙ ap (position_from (is_call_of line) index) (none-left tasks index none)

  module _ (t : RunTask) (there : slice_get tasks index ≡ Some t) where
    next : position_from (is_call_of line) 0 tasks ≡ cond (is_call_of line t) (Some index) (position_from (is_call_of line) (index + 1) (drop (suc index) tasks))
    next = passed.left ∙ ap (position_from (is_call_of line) index) (drop-next tasks index t there)

    pub found-there : is_call_of line t ≡ true → position_from (is_call_of line) 0 tasks ≡ Some index
    found-there is = next ∙ ap (λ (b : Bool). cond b (Some index) (position_from (is_call_of line) (index + 1) (drop (suc index) tasks))) is

    one : (b : Bool) → is_call t.run_action ≡ b → length (calls_of (t ∷ [])) ≡ (if b then 1 else 0)
    one true is = calls-with t [] true is
    one false is = calls-with t [] false is

    pub passed-more : is_call_of line t ≡ false → (n more : ℕ) → n ≡ index + 1 → more ≡ before + (if is_call t.run_action then 1 else 0) → IsPassed line tasks n more
    passed-more other n more is counts =
        let e : n ≡ suc index = omega (arith, is) in
        let all : length (calls_of (take index tasks ++ t ∷ [])) ≡ length (calls_of (take index tasks)) + length (calls_of (t ∷ [])) = count-append (λ (u : RunTask). is_call u.run_action) (take index tasks) (t ∷ []) in
        let here = one (is_call t.run_action) refl in
        let b = passed.calls in record {
          left = next ∙ ap (λ (b : Bool). cond b (Some index) (position_from (is_call_of line) (index + 1) (drop (suc index) tasks))) other
              ∙ ap (λ (m : ℕ). position_from (is_call_of line) m (drop (suc index) tasks)) (sym is) ∙ ap (λ (m : ℕ). position_from (is_call_of line) n (drop m tasks)) (sym e);
          calls = let total : more ≡ length (calls_of (take index tasks ++ t ∷ [])) = omega (arith, counts, all, here, b) in
              total ∙ ap (λ (l : List RunTask). length (calls_of l)) (sym (take-next tasks index t there)) ∙ ap (λ (m : ℕ). length (calls_of (take m tasks))) (sym e);
        }

one-most : (b : Bool) → (if b then 1 else 0) ≤ 1
one-most true = omega arith
one-most false = omega arith

pub call-most : (t : RunTask) → (if is_call t.run_action then 1 else 0) ≤ 1
call-most t = one-most (is_call t.run_action)

pub pairs-push : {X Y : Type 0} (R : X → Y → Type 0) (xs : List X) (ys : List Y) (x : X) (y : Y) → Pairwise R xs ys → R x y → Pairwise R (xs ++ x ∷ []) (ys ++ y ∷ [])
pairs-push R [] [] x y pairs one = (one, tt)
pairs-push R (z ∷ xs) (w ∷ ys) x y pairs one = (pairs.0, pairs-push R xs ys x y pairs.1 one)
pairs-push R [] (w ∷ ys) x y pairs one = absurd pairs
pairs-push R (z ∷ xs) [] x y pairs one = absurd pairs

-- the lists of a script's domains

list-there : (lists : List (List RunTask)) (place : ℕ) → place < length lists → slice_get lists place ≡ Some (get_or lists place [])
list-there lists place lt = slice_get-get_or lists place [] lt

pub first-call-at : (line : ℕ) (lists : List (List RunTask)) (place : ℕ) (p : CallPlace) → place < length lists → IsFirstIn line place (get_or lists place []) p → IsFirstCall line lists p
first-call-at line lists place p lt found = record {
  tasks = get_or lists place [];
  listed = ap (slice_get lists) found.at ∙ list-there lists place lt;
  found = record { at = refl; task = found.task; first = found.first; there = found.there; dom = found.dom; before = found.before };
}

pub no-calls : (line : ℕ) (lists : List (List RunTask)) (many : ℕ) → length lists ≤ many → ((at : ℕ) → at < many → position_from (is_call_of line) 0 (get_or lists at []) ≡ None) → HasNoCall line lists
no-calls line lists many le none place tasks there =
    let within = slice_get_within lists place tasks there in
    ap (position_from (is_call_of line) 0) (sym (get_or_from_slice_get lists place tasks [] there)) ∙ none place (omega (arith, within, le))
