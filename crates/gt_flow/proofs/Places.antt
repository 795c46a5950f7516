-- Lists by their places.
use Rattle.std.proofs.Common.{◌≡◌, ◌⊎◌, ℕ, zero, suc, ◌+◌, ◌==◌, ◌≤◌, ◌||◌, Bool, true, false, inl, inr, List, [], ◌∷◌}
use Rattle.std.proofs.Common.{◌++◌, length, filter, Some, refl, slice_get, ap, arith, cond, sym, ◌∙◌}
use Rattle.std.proofs.lemmas.Bool.{eqb-true}
use Rattle.gt_types.specs.declared.TypeId.{TypeId}
use Rattle.gt_flow.specs.Accesses.{is_among}

module _ {A : Type 0} where
  pub append-left : (xs ys : List A) (i : ℕ) (r : A) → slice_get xs i ≡ Some r → slice_get (xs ++ ys) i ≡ Some r
  append-left [] ys i r h = absurd (cc)
  append-left (x ∷ xs) ys zero r h = h
  append-left (x ∷ xs) ys (suc i) r h = append-left xs ys i r h

  pub append-right : (xs ys : List A) (i j : ℕ) (r : A) → j ≡ length xs + i → slice_get ys i ≡ Some r
      → slice_get (xs ++ ys) j ≡ Some r
  append-right [] ys i j r e h = ap (λ n. slice_get ys n) (omega (arith, e)) ∙ h
  append-right (x ∷ xs) ys i zero r e h = absurd (omega (arith, e))
  append-right (x ∷ xs) ys i (suc j) r e h = append-right xs ys i j r (omega (arith, e)) h

  pub append-cases : (xs ys : List A) (i : ℕ) (r : A) → slice_get (xs ++ ys) i ≡ Some r
      → (slice_get xs i ≡ Some r) ⊎ ((j : ℕ) × (i ≡ length xs + j) × (slice_get ys j ≡ Some r))
  append-cases [] ys i r h = inr (i, omega arith, h)
  append-cases (x ∷ xs) ys zero r h = inl h
  append-cases (x ∷ xs) ys (suc i) r h = elim (append-cases xs ys i r h) [
    | inl k ↦ inl k
    | inr k ↦ inr (k.0, omega (arith, k.1), k.2)
  ]

  pub within : (xs : List A) (i : ℕ) (r : A) → slice_get xs i ≡ Some r → i + 1 ≤ length xs
  within [] i r h = absurd (cc)
  within (x ∷ xs) zero r h = omega arith
  within (x ∷ xs) (suc i) r h = omega (arith, within xs i r h)

-- what a filter keeps passes its test
pub passes : (p : TypeId → Bool) (xs : List TypeId) (i : ℕ) (y : TypeId) → slice_get (filter p xs) i ≡ Some y
    → p y ≡ true
passes p [] i y h = absurd (cc)
passes p (x ∷ xs) i y h = by (λ j k. passes p xs j y k) (p x) i refl h
  where
    by : ((j : ℕ) → slice_get (filter p xs) j ≡ Some y → p y ≡ true)
        → (b : Bool) (i : ℕ) → p x ≡ b → slice_get (cond b (x ∷ filter p xs) (filter p xs)) i ≡ Some y → p y ≡ true
    by more true zero e k = grind (arith, e, k)
    by more true (suc i) e k = more i k
    by more false i e k = more i k

-- a type of a list has a place there
pub placed : (xs : List TypeId) (y : TypeId) → is_among xs y ≡ true → (i : ℕ) × (slice_get xs i ≡ Some y)
placed [] y h = absurd (cc)
placed (x ∷ xs) y h = by (λ k. placed xs y k) (x.0 == y.0) refl h
  where
    by : (is_among xs y ≡ true → (i : ℕ) × (slice_get xs i ≡ Some y))
        → (b : Bool) → (x.0 == y.0) ≡ b → (b || is_among xs y) ≡ true → (i : ℕ) × (slice_get (x ∷ xs) i ≡ Some y)
    by more true e k = (0, ap (λ n. Some (record { 0 = n })) (eqb-true x.0 y.0 e))
    by more false e k = (suc (more k).0, (more k).1)

-- and one that passes a test is kept by the filter
pub kept : (p : TypeId → Bool) (xs : List TypeId) (y : TypeId) → is_among xs y ≡ true → p y ≡ true
    → is_among (filter p xs) y ≡ true
kept p [] y h t = absurd (cc)
kept p (x ∷ xs) y h t = by (λ k. kept p xs y k t) (x.0 == y.0) (p x) refl refl h
  where
    same : (x.0 == y.0) ≡ true → x ≡ y
    same e = ap (λ n. record { 0 = n }) (eqb-true x.0 y.0 e)

    by : (is_among xs y ≡ true → is_among (filter p xs) y ≡ true)
        → (b c : Bool) → (x.0 == y.0) ≡ b → p x ≡ c → (b || is_among xs y) ≡ true
        → is_among (cond c (x ∷ filter p xs) (filter p xs)) y ≡ true
    by more true true e f k = ap (λ b. b || is_among (filter p xs) y) e
    by more true false e f k = absurd (cc (sym f, ap p (same e), t))
    by more false true e f k = ap (λ b. b || is_among (filter p xs) y) e ∙ more k
    by more false false e f k = more k
