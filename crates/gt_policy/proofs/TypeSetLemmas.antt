-- Bits of the halves of a set of types.
use Rattle.std.proofs.Common.{◌≡◌, ◌≢◌, ℕ, ◌-◌, ◌*◌, ◌%◌, ◌^◌, ◌<◌, ◌≤◌, ◌==◌, ◌||◌, ◌&&◌, Bool, true, false, cond}
use Rattle.std.proofs.Common.{refl, sym, ap, ◌∙◌, arith, rules, min, max, nat_lt, bit_and, bit_or}
use Rattle.std.specs.Prelude.{not}
use Rattle.std.specs.Int.{w128, bit_at, bit_not}
use Rattle.std.proofs.lemmas.Bool.{false≢true}
use Rattle.std.proofs.lemmas.Bool.Decides.{nat_tests}
use Rattle.std.proofs.lemmas.Nat.Bits.{bit_at-lt, bit_at_or, bit_at_and, bit_at_not, bit_at_set_same, bit_at_set_other}
use Rattle.gt_policy.specs.declared.types.TypeSet.{TypeSet}
use Rattle.gt_policy.specs.TypeSets.{has_bit, holds}
use Rattle.gt_policy.proofs.BoolLemmas.{or_false}

-- bits are below two
or_bits : (a b : ℕ) → a < 2 → b < 2 → (max a b == 1) ≡ ((a == 1) || (b == 1))
or_bits a b ha hb = grind (arith, nat_tests)

and_not_bits : (a b : ℕ) → a < 2 → b < 2 → (min a (1 - b) == 1) ≡ ((a == 1) && not (b == 1))
and_not_bits a b ha hb = grind (arith, nat_tests)

pub is_set-or : (a b n : ℕ) → has_bit (bit_or a b) n ≡ (has_bit a n || has_bit b n)
is_set-or a b n = ap (λ x. x == 1) (bit_at_or a b n) ∙ or_bits _ _ (bit_at-lt a n) (bit_at-lt b n)

pub is_set-without : (a b n : ℕ) → b < 2 ^ 128 → n < 128 → has_bit (bit_and a (bit_not w128 b)) n ≡ (has_bit a n && not (has_bit b n))
is_set-without a b n fits within =
    ap (λ x. x == 1) (bit_at_and a (bit_not w128 b) n) ∙ ap (λ x. min (bit_at a n) x == 1) (bit_at_not w128 b n fits within)
    ∙ and_not_bits _ _ (bit_at-lt a n) (bit_at-lt b n)

or_true : (b : Bool) → true ≡ (b || true)
or_true true = refl
or_true false = refl

-- one more bit
pub is_set-with : (a k n : ℕ) → k < 128 → has_bit (bit_or a (1 * 2 ^ k % 2 ^ 128)) n ≡ (has_bit a n || (n == k))
is_set-with a k n within = go (n == k) refl
  where
    go : (v : Bool) → (n == k) ≡ v → has_bit (bit_or a (1 * 2 ^ k % 2 ^ 128)) n ≡ (has_bit a n || v)
    go true e =
        let same : n ≡ k = grind (arith, nat_tests) in
        ap (λ i. has_bit (bit_or a (1 * 2 ^ k % 2 ^ 128)) i) same ∙ ap (λ x. x == 1) (bit_at_set_same w128 a k within) ∙ or_true (has_bit a n)
    go false e =
        let other : n ≢ k = λ same. false≢true (sym e ∙ search (rules, nat_tests)) in
        ap (λ x. x == 1) (bit_at_set_other w128 a k within n other) ∙ or_false (has_bit a n)

-- the halves together
pub holds-union : (a b c d n : ℕ) → holds (record { low = bit_or a c; high = bit_or b d }) n ≡ (holds (record { low = a; high = b }) n || holds (record { low = c; high = d }) n)
holds-union a b c d n = go (nat_lt n 128) (nat_lt n 256)
  where
    go : (v w : Bool) → cond v (has_bit (bit_or a c) n) (w && has_bit (bit_or b d) (n - 128)) ≡ (cond v (has_bit a n) (w && has_bit b (n - 128)) || cond v (has_bit c n) (w && has_bit d (n - 128)))
    go true w = is_set-or a c n
    go false true = is_set-or b d (n - 128)
    go false false = refl

pub holds-without : (a b c d n : ℕ) → c < 2 ^ 128 → d < 2 ^ 128 → holds (record { low = bit_and a (bit_not w128 c); high = bit_and b (bit_not w128 d) }) n
    ≡ (holds (record { low = a; high = b }) n && not (holds (record { low = c; high = d }) n))
holds-without a b c d n fits_c fits_d = go (nat_lt n 128) (nat_lt n 256) refl refl
  where
    go : (v w : Bool) → nat_lt n 128 ≡ v → nat_lt n 256 ≡ w → cond v (has_bit (bit_and a (bit_not w128 c)) n) (w && has_bit (bit_and b (bit_not w128 d)) (n - 128))
        ≡ (cond v (has_bit a n) (w && has_bit b (n - 128)) && not (cond v (has_bit c n) (w && has_bit d (n - 128))))
    go true w e f = is_set-without a c n fits_c (grind (arith, nat_tests))
    go false true e f = is_set-without b d (n - 128) fits_d (grind (arith, nat_tests))
    go false false e f = refl

pub holds-with_low : (a b k n : ℕ) → k < 128 → holds (record { low = bit_or a (1 * 2 ^ k % 2 ^ 128); high = b }) n ≡ (holds (record { low = a; high = b }) n || (n == k))
holds-with_low a b k n within = go (nat_lt n 128) refl
  where
    go : (v : Bool) → nat_lt n 128 ≡ v → cond v (has_bit (bit_or a (1 * 2 ^ k % 2 ^ 128)) n) (nat_lt n 256 && has_bit b (n - 128)) ≡ (cond v (has_bit a n) (nat_lt n 256 && has_bit b (n - 128)) || (n == k))
    go true e = is_set-with a k n within
    go false e =
        let other : (n == k) ≡ false = grind (arith, nat_tests) in
        or_false _ ∙ ap (λ x. (nat_lt n 256 && has_bit b (n - 128)) || x) (sym other)

pub holds-with_high : (a b k n : ℕ) → 128 ≤ k → k < 256 → holds (record { low = a; high = bit_or b (1 * 2 ^ (k - 128) % 2 ^ 128) }) n ≡ (holds (record { low = a; high = b }) n || (n == k))
holds-with_high a b k n least most = go (nat_lt n 128) (nat_lt n 256) refl refl
  where
    go : (v w : Bool) → nat_lt n 128 ≡ v → nat_lt n 256 ≡ w → cond v (has_bit a n) (w && has_bit (bit_or b (1 * 2 ^ (k - 128) % 2 ^ 128)) (n - 128)) ≡ (cond v (has_bit a n) (w && has_bit b (n - 128)) || (n == k))
    go true w e f =
        let other : (n == k) ≡ false = grind (arith, nat_tests) in
        or_false _ ∙ ap (λ x. has_bit a n || x) (sym other)
    go false true e f =
        let same : (n - 128 == k - 128) ≡ (n == k) = grind (arith, nat_tests) in
        is_set-with b (k - 128) (n - 128) (omega arith) ∙ ap (λ x. has_bit b (n - 128) || x) same
    go false false e f =
        let other : (n == k) ≡ false = grind (arith, nat_tests) in sym other

-- a set holds numbers below 256
pub holds-small : (set : TypeSet) (n : ℕ) → holds set n ≡ true → n < 256
holds-small set n e = go (nat_lt n 128) (nat_lt n 256) refl refl e
  where
    go : (v w : Bool) → nat_lt n 128 ≡ v → nat_lt n 256 ≡ w → cond v (has_bit set.low n) (w && has_bit set.high (n - 128)) ≡ true → n < 256
    go true w e f h = grind (arith, nat_tests)
    go false true e f h = grind (arith, nat_tests)
    go false false e f h = absurd (false≢true h)
