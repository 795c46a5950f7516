-- Elements by their places.
use Rattle.std.proofs.Common.{◌≡◌, ◌≢◌, ◌<◌, ◌≤◌, ◌⊎◌, ℕ, zero, suc, ◌+◌, List, [], ◌∷◌, ◌++◌, length, drop, take, Some}
use Rattle.std.proofs.Common.{refl, ap, sym, ◌∙◌, inl, inr, arith, get_or}
use Rattle.std.proofs.Math.ListN.{set}
use Rattle.std.proofs.lemmas.Option.{none-some, same_Some}
use Rattle.std.specs.Prelude.{slice_get}

pub get_left : {X : Type 0} (xs ys : List X) (k : ℕ) → k < length xs → slice_get (xs ++ ys) k ≡ slice_get xs k
get_left [] ys k lt = absurd (omega arith)
get_left (x ∷ xs) ys zero lt = refl
get_left (x ∷ xs) ys (suc k) lt = get_left xs ys k (omega arith)

pub get_end : {X : Type 0} (xs : List X) (x : X) → slice_get (xs ++ x ∷ []) (length xs) ≡ Some x
get_end [] x = refl
get_end (y ∷ xs) x = get_end xs x

-- an element with one more behind is one of those before it, or that one
pub get_cases : {X : Type 0} (xs : List X) (x y : X) (k : ℕ) → slice_get (xs ++ x ∷ []) k ≡ Some y
    → ((k < length xs) × (slice_get xs k ≡ Some y)) ⊎ ((k ≡ length xs) × (x ≡ y))
get_cases [] x y zero e = inr (refl, same_Some x y e)
get_cases [] x y (suc k) e = absurd (none-some y e)
get_cases (z ∷ xs) x y zero e = inl (omega arith, e)
get_cases (z ∷ xs) x y (suc k) e = elim (get_cases xs x y k e) [
  | inl (lt, f) ↦ inl (omega arith, f)
  | inr (last, f) ↦ inr (ap suc last, f)
]

-- what is left from a place on begins with the element there
pub drop_here : {X : Type 0} (xs : List X) (k : ℕ) (x : X) → slice_get xs k ≡ Some x → drop k xs ≡ x ∷ drop (suc k) xs
drop_here [] k x e = absurd (none-some x e)
drop_here (y ∷ xs) zero x e = ap (λ z. z ∷ xs) (same_Some y x e)
drop_here (y ∷ xs) (suc k) x e = drop_here xs k x e

pub drop_next : {X : Type 0} (xs : List X) (k : ℕ) (x : X) → slice_get xs k ≡ Some x → drop k xs ≡ x ∷ drop (k + 1) xs
drop_next xs k x e = let next : suc k ≡ k + 1 = omega arith in drop_here xs k x e ∙ ap (λ n. x ∷ drop n xs) next

pub drop_all : {X : Type 0} (xs : List X) (k : ℕ) → length xs ≤ k → drop k xs ≡ []
drop_all [] zero h = refl
drop_all [] (suc k) h = refl
drop_all (x ∷ xs) zero h = absurd (omega arith)
drop_all (x ∷ xs) (suc k) h = drop_all xs k (omega arith)

-- where one element was changed
pub get_set : {X : Type 0} (xs : List X) (at k : ℕ) (x y : X) → slice_get (set xs at x) k ≡ Some y
    → ((k ≡ at) × (x ≡ y)) ⊎ ((k ≢ at) × (slice_get xs k ≡ Some y))
get_set [] at k x y e = absurd (none-some y e)
get_set (z ∷ xs) zero zero x y e = inl (refl, same_Some x y e)
get_set (z ∷ xs) zero (suc k) x y e = inr (omega arith, e)
get_set (z ∷ xs) (suc at) zero x y e = inr (omega arith, e)
get_set (z ∷ xs) (suc at) (suc k) x y e = elim (get_set xs at k x y e) [
  | inl (same, f) ↦ inl (ap suc same, f)
  | inr (other, f) ↦ inr (λ g. other (omega (arith, g)), f)
]

-- a list around the element at a place
pub around : {X : Type 0} (xs : List X) (k : ℕ) (x : X) → k < length xs → x ≡ get_or xs k x → xs ≡ take k xs ++ x ∷ drop (suc k) xs
around [] k x lt is = absurd (omega arith)
around (y ∷ xs) zero x lt is = ap (λ z. z ∷ xs) (sym is)
around (y ∷ xs) (suc k) x lt is = ap (λ l. y ∷ l) (around xs k x (omega arith) is)
