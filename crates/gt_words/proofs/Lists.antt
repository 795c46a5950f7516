-- An item of a list, by its index.
use Rattle.std.proofs.Common.{◌≡◌, ℕ, zero, suc, ◌+◌, ◌-◌, ◌<◌, ◌≤◌, List, [], ◌∷◌, ◌++◌, length, get_or, set, sym}
use Rattle.std.proofs.Common.{refl, subst, arith}
use mathlib.Core.Option.{some, some-injective, some-ne-none}
use lib.ListN.{get_elem?}

module _ {A : Type 0} where
  -- what stands there
  pub whose_at : (hs : List (List A)) (t : ℕ) (h : List A) → get_elem? hs t ≡ some h → get_or hs t [] ≡ h
  whose_at [] t h e = absurd (some-ne-none h (sym e))
  whose_at (x ∷ xs) zero h e = some-injective x h e
  whose_at (x ∷ xs) (suc t) h e = whose_at xs t h e

  -- what stands there after it was set
  pub whose_here : (hs : List (List A)) (t : ℕ) (h y : List A) → get_elem? hs t ≡ some h → get_or (set hs t y) t [] ≡ y
  whose_here [] t h y e = absurd (some-ne-none h (sym e))
  whose_here (x ∷ xs) zero h y e = refl
  whose_here (x ∷ xs) (suc t) h y e = whose_here xs t h y e

  -- what holds of each item by its place holds with one more item in front
  pub one_in_front : (P : ℕ → A → Type 0) (x : A) (xs ys : List A) (n : ℕ) → P 0 x → ((i : ℕ) → i < length xs → (d : A) → P (i + 1) (get_or xs i d)) → n ≤ length xs + 1 → ((d : A) → get_or ys 0 d ≡ x) → ((k : ℕ) (d : A) → 0 < k → get_or ys k d ≡ get_or xs (k - 1) d)
      → (i : ℕ) → i < n → (d : A) → P i (get_or ys i d)
  one_in_front P x xs ys n first rest long here there zero inside d = subst (P 0) (sym (here d)) first
  one_in_front P x xs ys n first rest long here there (suc i) inside d = let j : ℕ = suc i - 1 in let next : j + 1 ≡ suc i = omega arith in
      subst (P (suc i)) (sym (there (suc i) d (omega arith))) (subst (λ (m : ℕ). P m (get_or xs j d)) next (rest j (omega arith) d))

  -- what holds of each item by its place holds with one more item behind
  pub one_behind : (P : ℕ → A → Type 0) (x : A) (xs : List A) (d : A) → ((i : ℕ) → i < length xs → P i (get_or xs i d)) → P (length xs) x → (i : ℕ) → i < length (xs ++ x ∷ []) → P i (get_or (xs ++ x ∷ []) i d)
  one_behind P x [] d each last zero inside = last
  one_behind P x [] d each last (suc i) inside = absurd (omega arith)
  one_behind P x (y ∷ ys) d each last zero inside = each 0 (omega arith)
  one_behind P x (y ∷ ys) d each last (suc i) inside = one_behind (λ n. P (suc n)) x ys d (λ j l. each (suc j) (omega arith)) last i (omega arith)
