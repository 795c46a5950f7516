-- A frame needs no more records than it has bytes: those that later ones do not cover.
use Rattle.std.proofs.Common.{◌≡◌, ℕ, zero, suc, ◌+◌, ◌<◌, ◌≤◌, ◌⊎◌, inl, inr, Bool, true, false, ◌||◌, ◌&&◌}
use Rattle.std.proofs.Common.{if◌then◌else◌, IsTrue, Option, Some, None, List, [], ◌∷◌, length, refl, sym, ◌∙◌, ap}
use Rattle.std.proofs.Common.{subst, arith}
use Rattle.std.proofs.lemmas.Bool.{cases_lt}
use Rattle.std.proofs.lemmas.Bool.Decides.{nat_tests}
use Rattle.gt_types.specs.declared.DomId.{DomId}
use Rattle.gt_types.specs.declared.limits.TheConstants.{FRAME_SIZE}
use Rattle.gt_frames.specs.declared.writ.Writ.{Writ}
use Rattle.gt_frames.specs.declared.writ.WriteRecord.{WriteRecord}
use Rattle.gt_model.specs.Written.{overlay, zeros, replay}
use Rattle.gt_frames.specs.Covering.{AreSomeOf, IsCovered, LieInside, StandFor, some_has}
use Rattle.gt_frames.specs.Frames.{all_rightful, is_rightful, patches}
use Rattle.gt_frames.specs.Writers.{has_byte, last_writ}
use Rattle.gt_frames.proofs.Covered.{left-out-of, size-overlay, zeros-size}

-- the number of numbers below n that pass the test
abbrev counted : (ℕ → Bool) → ℕ → ℕ
counted test zero = 0
counted test (suc n) = if test n then suc (counted test n) else counted test n

counted-most : (test : ℕ → Bool) (n : ℕ) → counted test n ≤ n
counted-most test zero = omega arith
counted-most test (suc n) = one-more (test n) (counted test n) n (counted-most test n) where
  one-more : (b : Bool) (m n : ℕ) → m ≤ n → (if b then suc m else m) ≤ suc n
  one-more true m n le = omega (arith, le)
  one-more false m n le = omega (arith, le)

no-fewer : (a b : Bool) (m n : ℕ) → (a ≡ true → b ≡ true) → m ≤ n → (if a then suc m else m) ≤ (if b then suc n else n)
no-fewer true true m n i le = omega (arith, le)
no-fewer true false m n i le = absurd (cc (i refl))
no-fewer false true m n i le = omega (arith, le)
no-fewer false false m n i le = le

still-more : (a b : Bool) (m n : ℕ) → (a ≡ true → b ≡ true) → m < n → (if a then suc m else m) < (if b then suc n else n)
still-more true true m n i lt = omega (arith, lt)
still-more true false m n i lt = absurd (cc (i refl))
still-more false true m n i lt = omega (arith, lt)
still-more false false m n i lt = lt

now-more : (a b : Bool) (m n : ℕ) → a ≡ false → b ≡ true → m ≤ n → (if a then suc m else m) < (if b then suc n else n)
now-more true b m n fails passes le = absurd (cc fails)
now-more false false m n fails passes le = absurd (cc passes)
now-more false true m n fails passes le = omega (arith, le)

-- if what passes the one test passes the other, this counts no fewer
counted-grows : (p q : ℕ → Bool) (n : ℕ) → ((at : ℕ) → p at ≡ true → q at ≡ true) → counted p n ≤ counted q n
counted-grows p q zero h = omega arith
counted-grows p q (suc n) h = no-fewer (p n) (q n) (counted p n) (counted q n) (h n) (counted-grows p q n h)

-- and more, if some number passes it that doesn't pass the first
counted-more : (p q : ℕ → Bool) (n at : ℕ) → ((k : ℕ) → p k ≡ true → q k ≡ true) → at < n → p at ≡ false → q at ≡ true → counted p n < counted q n
counted-more p q zero at h lt fails passes = absurd (omega (arith, lt))
counted-more p q (suc n) at h lt fails passes = elim (cases_lt at n) [
  | inl below ↦ still-more (p n) (q n) (counted p n) (counted q n) (h n) (counted-more p q n at h below fails passes)
  | inr le ↦
      let here : at ≡ n = omega (arith, lt, le) in
      now-more (p n) (q n) (counted p n) (counted q n) (subst (λ (k : ℕ). p k ≡ false) here fails) (subst (λ (k : ℕ). q k ≡ true) here passes) (counted-grows p q n h)
]

-- each number below n that passes the one test passes the other, or one of them does not
all_or_one : (p q : ℕ → Bool) (n : ℕ) → ((at : ℕ) → at < n → p at ≡ true → q at ≡ true) ⊎ ((at : ℕ) × (at < n) × (p at ≡ true) × (q at ≡ false))
all_or_one p q zero = inl (λ at lt yes. absurd (omega (arith, lt)))
all_or_one p q (suc n) = elim (all_or_one p q n) [
  | inr one ↦ inr (one.0, omega (arith, one.1), one.2, one.3)
  | inl all ↦ here all (p n) (q n) refl refl
] where
  here : ((at : ℕ) → at < n → p at ≡ true → q at ≡ true) → (a b : Bool) → p n ≡ a → q n ≡ b → ((at : ℕ) → at < suc n → p at ≡ true → q at ≡ true) ⊎ ((at : ℕ) × (at < suc n) × (p at ≡ true) × (q at ≡ false))
  here all true false pa qb = inr (n, omega arith, pa, qb)
  here all true true pa qb = inl (λ at lt yes. elim (cases_lt at n) [
    | inl below ↦ all at below yes
    | inr le ↦ let same : n ≡ at = omega (arith, lt, le) in subst (λ (k : ℕ). q k ≡ true) same qb
  ])
  here all false b pa qb = inl (λ at lt yes. elim (cases_lt at n) [
    | inl below ↦ all at below yes
    | inr le ↦ let same : n ≡ at = omega (arith, lt, le) in absurd (cc (subst (λ (k : ℕ). p k ≡ false) same pa, yes))
  ])

-- a byte of a record lies before its end
before-end : (r : WriteRecord) (at : ℕ) → has_byte r at ≡ true → at < r.off + length r.bytes
before-end r at has = grind (arith, nat_tests)

-- the record is covered, or shows a byte
covered_or_shows : (r : WriteRecord) (later : List WriteRecord) → r.off + length r.bytes ≤ FRAME_SIZE
    → IsCovered r later ⊎ ((at : ℕ) × (at < FRAME_SIZE) × (has_byte r at ≡ true) × (some_has later at ≡ false))
covered_or_shows r later fits = elim (all_or_one (has_byte r) (some_has later) FRAME_SIZE) [
  | inr one ↦ inr one
  | inl all ↦ inl (λ at has. all at (omega (arith, before-end r at has, fits)) has)
]

-- a byte that some of the records have was last written by one of them
last-of-some : (rs : List WriteRecord) (at : ℕ) (v w : Option Writ) → some_has rs at ≡ true → last_writ rs at v ≡ last_writ rs at w
last-of-some [] at v w has = absurd (cc has)
last-of-some (r ∷ rs) at v w has = step (has_byte r at) has (λ rest. last-of-some rs at v w rest) where
  step : (b : Bool) → b || some_has rs at ≡ true → (some_has rs at ≡ true → last_writ rs at v ≡ last_writ rs at w)
      → last_writ rs at (if b then Some r.writ else v) ≡ last_writ rs at (if b then Some r.writ else w)
  step true has rest = refl
  step false has rest = rest has

last-of-covered : (r : WriteRecord) (rs : List WriteRecord) (at : ℕ) (w : Option Writ) → IsCovered r rs → last_writ rs at w ≡ last_writ rs at (if has_byte r at then Some r.writ else w)
last-of-covered r rs at w covered = step (has_byte r at) (covered at) where
  step : (b : Bool) → (b ≡ true → some_has rs at ≡ true) → last_writ rs at w ≡ last_writ rs at (if b then Some r.writ else w)
  step true has = last-of-some rs at w (Some r.writ) (has refl)
  step false has = refl

-- as StandFor, over any bytes, with at most as many records as bytes that they have
record Shortened (rs ks : List WriteRecord) : Type 0 where
  some : AreSomeOf ks rs
  most : length ks ≤ counted (some_has rs) FRAME_SIZE
  bytes : (xs : List ℕ) → length xs ≡ FRAME_SIZE → replay xs (patches ks) ≡ replay xs (patches rs)
  writs : (at : ℕ) (w : Option Writ) → last_writ ks at w ≡ last_writ rs at w
  rightful : (owner : DomId) (number : ℕ) → IsTrue (all_rightful owner number rs) → IsTrue (all_rightful owner number ks)

has-more : (r : WriteRecord) (rs : List WriteRecord) (at : ℕ) → some_has rs at ≡ true → some_has (r ∷ rs) at ≡ true
has-more r rs at has = step (has_byte r at) where
  step : (b : Bool) → b || some_has rs at ≡ true
  step true = refl
  step false = has

left-out-here : (r : WriteRecord) (rs ks : List WriteRecord) → LieInside (r ∷ rs) → IsCovered r rs → Shortened rs ks → Shortened (r ∷ rs) ks
left-out-here r rs ks inside covered short =
    record {
      some = inl short.some;
      most = omega (arith, short.most, counted-grows (some_has rs) (some_has (r ∷ rs)) FRAME_SIZE (has-more r rs));
      bytes = λ xs size. short.bytes xs size ∙ sym (left-out-of [] rs r xs size inside covered);
      writs = λ at w. short.writs at w ∙ last-of-covered r rs at w covered;
      rightful = λ owner number all. short.rightful owner number (second (is_rightful owner number r) (all_rightful owner number rs) all);
    }
  where
    second : (a b : Bool) → IsTrue (a && b) → IsTrue b
    second true b all = all
    second false b all = absurd (cc all)

kept-here : (r : WriteRecord) (rs ks : List WriteRecord) (at : ℕ) → LieInside (r ∷ rs) → at < FRAME_SIZE → has_byte r at ≡ true → some_has rs at ≡ false → Shortened rs ks → Shortened (r ∷ rs) (r ∷ ks)
kept-here r rs ks at inside lt has none short =
    record {
      some = inr (ks, refl, short.some);
      most = omega (arith, short.most, counted-more (some_has rs) (some_has (r ∷ rs)) FRAME_SIZE at (has-more r rs) lt none (ap (λ (b : Bool). b || some_has rs at) has));
      bytes = λ xs size. short.bytes (overlay xs r.off r.bytes) (size-overlay xs r size inside.0);
      writs = λ k w. short.writs k (if has_byte r k then Some r.writ else w);
      rightful = λ owner number all. both (is_rightful owner number r) (all_rightful owner number rs) (all_rightful owner number ks) (short.rightful owner number) all;
    }
  where
    both : (a b c : Bool) → (IsTrue b → IsTrue c) → IsTrue (a && b) → IsTrue (a && c)
    both true b c h all = h all
    both false b c h all = all

shortened : (rs : List WriteRecord) → LieInside rs → (ks : List WriteRecord) × Shortened rs ks
shortened [] inside =
    ([], record { some = refl; most = omega arith; bytes = λ xs size. refl; writs = λ at w. refl; rightful = λ owner number all. all })
shortened (r ∷ rs) inside =
    let rest = shortened rs inside.1 in
    elim (covered_or_shows r rs inside.0) [
      | inl covered ↦ (rest.0, left-out-here r rs rest.0 inside covered rest.1)
      | inr one ↦ (r ∷ rest.0, kept-here r rs rest.0 one.0 inside one.1 one.2 one.3 rest.1)
    ]

pub enough : (journal : List WriteRecord) → LieInside journal → (ks : List WriteRecord) × StandFor journal ks
enough journal inside =
    let short = shortened journal inside in (
      short.0,
      record {
        some = short.1.some;
        most = omega (arith, short.1.most, counted-most (some_has journal) FRAME_SIZE);
        bytes = short.1.bytes zeros zeros-size;
        writs = λ at. short.1.writs at None;
        rightful = short.1.rightful;
      },
    )
