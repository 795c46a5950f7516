-- How many domains have tasks left, and how many blocks a run that ends still needs.
use Rattle.std.proofs.Common.{◌≡◌, ◌+◌, ◌≤◌, ◌<◌, ℕ, zero, suc, Bool, true, false, List, [], ◌∷◌, Option, Some, None}
use Rattle.std.proofs.Common.{refl, sym, ap, ◌∙◌, subst, arith, length}
use Rattle.std.specs.Prelude.{◌==◌, ◌&&◌, ◌-◌, filter, nat_le, not, slice_get, slice_set, drop, if◌then◌else◌}
use Rattle.std.proofs.lemmas.Bool.{eqb-true, eq-eqb, le-leb, leb-false, leb-true, lt-leb}
use Rattle.std.proofs.lemmas.Option.{none-some, same_Some}
use Rattle.gt_explore_changes.specs.Blocks.{blocks_with, is_last}
use Rattle.gt_explore_changes.specs.Waiting.{waiting_by}

-- one domain counts at most once
less : (l h : Bool) → (if not l && h then 1 else 0) ≤ (if not false && h then 1 else 0)
less true true = omega arith
less true false = omega arith
less false true = omega arith
less false false = omega arith

at-most-one : (b : Bool) → (if b then 1 else 0) ≤ 1
at-most-one true = omega arith
at-most-one false = omega arith

unequal : (t at : ℕ) → t < at → (t == at) ≡ false
unequal t at lt = by (t == at) refl
  where
    by : (b : Bool) → (t == at) ≡ b → (t == at) ≡ false
    by false e = e
    by true e = let same = eqb-true t at e in absurd (omega (arith, lt, same))

module _ {X : Type 0} (has : ℕ → X → Bool) where
  -- a domain before all of these is none of them
  before : (last : Option ℕ) (t at : ℕ) (xs : List X) → t < at → waiting_by has last at xs ≤ waiting_by has (Some t) at xs
  before last t at [] lt = omega arith
  before last t at (x ∷ xs) lt =
      let head = subst (λ (b : Bool). (if not (is_last last at) && has at x then 1 else 0) ≤ (if not b && has at x then 1 else 0)) (sym (unequal t at lt)) (less (is_last last at) (has at x)) in
      let below : t < suc at = omega (arith, lt) in
      let tail = before last t (suc at) xs below in
      omega (arith, head, tail)

  -- without another domain, one more may be left out
  pub one-less : (last : Option ℕ) (t at : ℕ) (xs : List X) → waiting_by has last at xs ≤ waiting_by has (Some t) at xs + 1
  one-less last t at [] = omega arith
  one-less last t at (x ∷ xs) = by (t == at) refl (one-less last t (suc at) xs)
    where
      by : (b : Bool) → (t == at) ≡ b → waiting_by has last (suc at) xs ≤ waiting_by has (Some t) (suc at) xs + 1 → waiting_by has last at (x ∷ xs) ≤ waiting_by has (Some t) at (x ∷ xs) + 1
      by true e tail-less =
          let same = eqb-true t at e in
          let below : t < suc at = omega (arith, same) in
          let head = at-most-one (not (is_last last at) && has at x) in
          let tail = before last t (suc at) xs below in
          omega (arith, head, tail)
      by false e tail-less =
          let head = subst (λ (b : Bool). (if not (is_last last at) && has at x then 1 else 0) ≤ (if not b && has at x then 1 else 0)) (sym e) (less (is_last last at) (has at x)) in
          omega (arith, head, tail-less)

  -- what the domain that moved last has left counts for nothing
  pub own : (at i : ℕ) (xs : List X) (x : X) → waiting_by has (Some (at + i)) at (slice_set xs i x) ≡ waiting_by has (Some (at + i)) at xs
  own at i [] x = refl
  own at zero (y ∷ ys) x =
      let e : (at + 0 == at) ≡ true = eq-eqb (at + 0) at (omega arith) in
      ap (λ (b : Bool). (if not b && has at x then 1 else 0) + waiting_by has (Some (at + 0)) (suc at) ys) e
      ∙ sym (ap (λ (b : Bool). (if not b && has at y then 1 else 0) + waiting_by has (Some (at + 0)) (suc at) ys) e)
  own at (suc i) (y ∷ ys) x =
      let e : suc at + i ≡ at + suc i = omega arith in
      ap (λ (n : ℕ). (if not (is_last (Some (at + suc i)) at) && has at y then 1 else 0) + n)
      (subst (λ (t : ℕ). waiting_by has (Some t) (suc at) (slice_set ys i x) ≡ waiting_by has (Some t) (suc at) ys) e (own (suc at) i ys x))

  pub own-first : (t : ℕ) (xs : List X) (x : X) → waiting_by has (Some t) 0 (slice_set xs t x) ≡ waiting_by has (Some t) 0 xs
  own-first t xs x =
      let e : 0 + t ≡ t = omega arith in
      subst (λ (n : ℕ). waiting_by has (Some n) 0 (slice_set xs t x) ≡ waiting_by has (Some n) 0 xs) e (own 0 t xs x)

-- the number of blocks and of those that wait, after one more turn
pub one-more : (last : Option ℕ) (blocks t waiting others : ℕ) → waiting ≤ others + 1 → (is_last last t ≡ true → waiting ≡ others)
    → blocks + waiting ≤ blocks_with last blocks t + others
one-more last blocks t waiting others most same = by (is_last last t) refl
  where
    by : (b : Bool) → is_last last t ≡ b → blocks + waiting ≤ blocks_with last blocks t + others
    by true e =
        let w = same e in
        subst (λ (b : Bool). blocks + waiting ≤ (if b then blocks else suc blocks) + others) (sym e) (omega (arith, w))
    by false e = subst (λ (b : Bool). blocks + waiting ≤ (if b then blocks else suc blocks) + others) (sym e) (omega (arith, most))

-- the domain that moved last
pub last-so : (last : Option ℕ) (t : ℕ) → is_last last t ≡ true → last ≡ Some t
last-so None t e = absurd cc
last-so (Some n) t e = ap Some (eqb-true n t e)

-- what is left begins where the list was left
pub first-left : {X : Type 0} (n : ℕ) (xs : List X) → slice_get (drop n xs) 0 ≡ slice_get xs n
first-left zero xs = refl
first-left (suc n) [] = refl
first-left (suc n) (x ∷ xs) = first-left n xs

-- lists with the same left at each place
pub same-waiting : {X Y : Type 0} (has : ℕ → X → Bool) (waits : ℕ → Y → Bool) (last : Option ℕ) (at : ℕ) (xs : List X) (ys : List Y) → length ys ≡ length xs
    → ((i : ℕ) (x : X) (y : Y) → slice_get xs i ≡ Some x → slice_get ys i ≡ Some y → has (at + i) x ≡ waits (at + i) y) → waiting_by has last at xs ≡ waiting_by waits last at ys
same-waiting has waits last at [] [] many each = refl
same-waiting has waits last at (x ∷ xs) [] many each = absurd (omega (arith, many))
same-waiting has waits last at [] (y ∷ ys) many each = absurd (omega (arith, many))
same-waiting {X} {Y} has waits last at (x ∷ xs) (y ∷ ys) many each =
    let fewer : length ys ≡ length xs = omega (arith, many) in
    let e : at + 0 ≡ at = omega arith in
    let here = subst (λ (n : ℕ). has n x ≡ waits n y) e (each 0 x y refl refl) in
    let later = same-waiting has waits last (suc at) xs ys fewer (λ i u v there other.
    let n : at + suc i ≡ suc at + i = omega arith in subst (λ (k : ℕ). has k u ≡ waits k v) n (each (suc i) u v there other)) in
    ap (λ (b : Bool). (if not (is_last last at) && b then 1 else 0) + waiting_by has last (suc at) xs) here
    ∙ ap (λ (n : ℕ). (if not (is_last last at) && waits at y then 1 else 0) + n) later

-- an item of a list that passes a test is one of those that do
pub among-filtered : {X : Type 0} (f : X → Bool) (xs : List X) (at : ℕ) (x : X) → slice_get xs at ≡ Some x → f x ≡ true → (j : ℕ) × (slice_get (filter f xs) j ≡ Some x)
among-filtered f [] at x there passes = absurd (none-some x there)
among-filtered f (y ∷ ys) zero x there passes =
    let e = subst (λ z. f z ≡ true) (sym (same_Some y x there)) passes in
    (0, subst (λ (b : Bool). slice_get (if b then y ∷ filter f ys else filter f ys) 0 ≡ Some x) (sym e) there)
among-filtered {X} f (y ∷ ys) (suc at) x there passes = by (f y) refl (among-filtered f ys at x there passes)
  where
    by : (b : Bool) → f y ≡ b → (j : ℕ) × (slice_get (filter f ys) j ≡ Some x) → (j : ℕ) × (slice_get (filter f (y ∷ ys)) j ≡ Some x)
    by true e (j, is) = (suc j, subst (λ (b : Bool). slice_get (if b then y ∷ filter f ys else filter f ys) (suc j) ≡ Some x) (sym e) is)
    by false e (j, is) = (j, subst (λ (b : Bool). slice_get (if b then y ∷ filter f ys else filter f ys) j ≡ Some x) (sym e) is)

-- the blocks that are left are enough for those that wait
pub left-enough : (n waiting most : ℕ) → n ≤ most → nat_le waiting (most - n) ≡ nat_le (n + waiting) most
left-enough n waiting most few = by (nat_le waiting (most - n)) refl
  where
    by : (b : Bool) → nat_le waiting (most - n) ≡ b → nat_le waiting (most - n) ≡ nat_le (n + waiting) most
    by true e = let within = leb-true waiting (most - n) e in e ∙ sym (le-leb (n + waiting) most (omega (arith, within, few)))
    by false e = let past = leb-false waiting (most - n) e in e ∙ sym (lt-leb (n + waiting) most (omega (arith, past, few)))

-- too many blocks are not enough
pub none-enough : (n waiting most : ℕ) → most < n → nat_le (n + waiting) most ≡ false
none-enough n waiting most many = lt-leb (n + waiting) most (omega (arith, many))
