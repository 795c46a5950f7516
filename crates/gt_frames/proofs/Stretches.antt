-- The latest stretch, and the numbers of the bytes below it.
use Rattle.std.proofs.Common.{◌≡◌, ℕ, zero, suc, ◌+◌, ◌-◌, ◌<◌, ◌≤◌, ◌⊎◌, inl, inr, Bool, true, false, List, [], ◌∷◌}
use Rattle.std.proofs.Common.{length, replicate, get_or, set, take, refl, sym, ◌∙◌, ap, arith}
use Rattle.std.proofs.lemmas.Bool.{cases_lt}
use Rattle.std.proofs.lemmas.List.{ext_get_or, length-replicate, take_all}
use Rattle.gt_model.specs.Written.{overlay, IsLaidOver}
use Rattle.gt_frames.specs.declared.writers.Stretch.{Stretch}
use Rattle.gt_frames.specs.Writers.{LiesIn, count_used, numbers_of}
use Rattle.gt_frames.proofs.Overlay.{laid_over, length-overlay}

-- no byte has a number
pub zero-read : (n at : ℕ) → ◌≡◌ {A = ℕ} (get_or (replicate n 0) at 0) 0
zero-read zero at = refl
zero-read (suc n) zero = refl
zero-read (suc n) (suc at) = zero-read n at

pub same-read : (n v at : ℕ) → at < n → get_or (replicate n v) at 0 ≡ v
same-read zero v at lt = absurd (omega arith)
same-read (suc n) v zero lt = refl
same-read (suc n) v (suc at) lt = same-read n v at (omega (arith, lt))

-- the number of a byte after a range was given one
pub range-read :
    (xs : List ℕ) (off len n at : ℕ) → off + len ≤ length xs
    → ((off ≤ at) × (at < off + len) × (get_or (overlay xs off (replicate len n)) at 0 ≡ n))
    ⊎ (((at < off) ⊎ (off + len ≤ at)) × (get_or (overlay xs off (replicate len n)) at 0 ≡ get_or xs at 0))
range-read xs off len n at fits =
    let size : length (replicate len n) ≡ len = length-replicate len n in
    let over : IsLaidOver xs off (replicate len n) (overlay xs off (replicate len n)) = laid_over xs off (replicate len n) (omega (arith, size, fits)) in
    let inside : off ≤ at → at < off + len → get_or (overlay xs off (replicate len n)) at 0 ≡ n =
    λ le lt.
    let back : off + (at - off) ≡ at = omega arith in
    ap (λ (k : ℕ). get_or (overlay xs off (replicate len n)) k 0) (sym back)
    ∙ over.inside (at - off) (omega (arith, size, lt, le)) ∙ same-read len n (at - off) (omega (arith, lt, le)) in
    elim (cases_lt at off) [
      | inl below ↦ inr (inl below, over.before at below)
      | inr le ↦ elim (cases_lt at (off + len)) [
        | inl lt ↦ inl (le, lt, inside le lt)
        | inr above ↦ inr (inr above, over.after at (omega (arith, size, above)))
      ]
    ]

pub length_numbers : (xs : List ℕ) (s : Stretch) → LiesIn s xs → length (numbers_of xs s) ≡ length xs
length_numbers xs s lies = unfold numbers_of in length-overlay xs s.off (replicate s.len s.number) (omega (arith, length-replicate {A = ℕ} s.len s.number, lies))

-- a byte has the number of the stretch, or the one below
pub number_read :
    (xs : List ℕ) (s : Stretch) (at : ℕ) → LiesIn s xs
    → ((s.off ≤ at) × (at < s.off + s.len) × (get_or (numbers_of xs s) at 0 ≡ s.number))
    ⊎ (((at < s.off) ⊎ (s.off + s.len ≤ at)) × (get_or (numbers_of xs s) at 0 ≡ get_or xs at 0))
number_read xs s at lies = unfold numbers_of in range-read xs s.off s.len s.number at lies

-- a stretch of no bytes
pub no_stretch : (xs : List ℕ) (s : Stretch) → s.off ≡ 0 → s.len ≡ 0 → numbers_of xs s ≡ xs
no_stretch xs s start none =
    let is : LiesIn s xs = omega (arith, start, none) in
    ext_get_or 0 (numbers_of xs s) xs (length_numbers xs s is)
    (λ at lt. elim (number_read xs s at is) [
      | inl y ↦ absurd (omega (arith, start, none, y.1))
      | inr y ↦ y.1
    ])

-- a byte isn't both in a range and outside of it
apart : (at off len : ℕ) → (at < off) ⊎ (off + len ≤ at) → off ≤ at → at < off + len → ⊥
apart at off len (inl below) le lt = omega (arith, below, le)
apart at off len (inr above) le lt = omega (arith, above, lt)

pub number_inside : (xs : List ℕ) (s : Stretch) (at : ℕ) → LiesIn s xs → s.off ≤ at → at < s.off + s.len → get_or (numbers_of xs s) at 0 ≡ s.number
number_inside xs s at lies le lt = elim (number_read xs s at lies) [
  | inl y ↦ y.2
  | inr y ↦ absurd (apart at s.off s.len y.0 le lt)
]

pub number_outside : (xs : List ℕ) (s : Stretch) (at : ℕ) → LiesIn s xs → (at < s.off) ⊎ (s.off + s.len ≤ at) → get_or (numbers_of xs s) at 0 ≡ get_or xs at 0
number_outside xs s at lies out = elim (number_read xs s at lies) [
  | inl y ↦ absurd (apart at s.off s.len out y.0 y.1)
  | inr y ↦ y.1
]

module _ (xs : List ℕ) (s : Stretch) (off len n : ℕ) (lies : LiesIn s xs) (fits : off + len ≤ length xs) where
  -- these numbers in the range, and elsewhere those that were there
  laid :
      (zs : List ℕ) → length zs ≡ length xs → ((at : ℕ) → off ≤ at → at < off + len → get_or zs at 0 ≡ n)
      → ((at : ℕ) → (at < off) ⊎ (off + len ≤ at) → get_or zs at 0 ≡ get_or (numbers_of xs s) at 0)
      → zs ≡ overlay (numbers_of xs s) off (replicate len n)
  laid zs size inside outside =
      let old : List ℕ = numbers_of xs s in
      let all : length old ≡ length xs = length_numbers xs s lies in
      let fits_in : off + len ≤ length old = omega (arith, fits, all) in
      let over : length (overlay old off (replicate len n)) ≡ length old = length-overlay old off (replicate len n) (omega (arith, length-replicate {A = ℕ} len n, fits_in)) in
      ext_get_or 0 zs (overlay old off (replicate len n)) (size ∙ sym all ∙ sym over)
      (λ at lt. elim (range-read old off len n at fits_in) [
        | inl y ↦ inside at y.0 y.1 ∙ sym y.2
        | inr y ↦ outside at y.0 ∙ sym y.1
      ])

  -- the range contains the stretch
  pub covered : (t : Stretch) → t.off ≡ off → t.len ≡ len → t.number ≡ n → off ≤ s.off → s.off + s.len ≤ off + len
      → numbers_of xs t ≡ overlay (numbers_of xs s) off (replicate len n)
  covered t from long is starts ends =
      let there : LiesIn t xs = omega (arith, from, long, fits) in
      laid (numbers_of xs t) (length_numbers xs t there)
      (λ at le lt. elim (number_read xs t at there) [
        | inl y ↦ y.2 ∙ is
        | inr y ↦ absurd (apart at t.off t.len y.0 (omega (arith, from, le)) (omega (arith, from, long, lt)))
      ])
      (λ at out. elim (number_read xs t at there) [
        | inl y ↦ absurd (apart at off len out (omega (arith, from, y.0)) (omega (arith, from, long, y.1)))
        | inr y ↦ y.1 ∙ elim (number_read xs s at lies) [
          | inl z ↦ absurd (apart at off len out (omega (arith, starts, z.0)) (omega (arith, ends, z.1)))
          | inr z ↦ sym z.1
        ]
      ])

  -- the range begins inside the stretch, or at its end, and has its number
  pub grown : (t : Stretch) → t.off ≡ s.off → t.number ≡ n → s.number ≡ n → s.off ≤ off → off ≤ s.off + s.len
      → s.len ≤ t.len → off + len ≤ t.off + t.len → LiesIn t xs → ((at : ℕ) → at < t.off + t.len → off + len ≤ at → at < s.off + s.len)
      → numbers_of xs t ≡ overlay (numbers_of xs s) off (replicate len n)
  grown t from is was starts meets longer ends there most =
      laid (numbers_of xs t) (length_numbers xs t there)
      (λ at le lt. elim (number_read xs t at there) [
        | inl y ↦ y.2 ∙ is
        | inr y ↦ absurd (apart at t.off t.len y.0 (omega (arith, from, le, starts)) (omega (arith, ends, lt)))
      ])
      (λ at out. elim (number_read xs t at there) [
        | inl y ↦ y.2 ∙ is ∙ sym was ∙ elim (number_read xs s at lies) [
          | inl z ↦ sym z.2
          | inr z ↦ absurd (apart at s.off s.len z.0 (omega (arith, from, y.0)) (ends-before at out y.1))
        ]
        | inr y ↦ y.1 ∙ elim (number_read xs s at lies) [
          | inl z ↦ absurd (apart at t.off t.len y.0 (omega (arith, from, z.0)) (omega (arith, from, longer, z.1)))
          | inr z ↦ sym z.1
        ]
      ])
    where
      ends-before : (at : ℕ) → (at < off) ⊎ (off + len ≤ at) → at < t.off + t.len → at < s.off + s.len
      ends-before at (inl below) lt = omega (arith, below, meets)
      ends-before at (inr above) lt = most at lt above

-- the number of marked slots

cleared_more_suc : (us : List Bool) (at : ℕ) → at < length us → count_used (take at us) ≡ 0 → count_used (take (suc at) (set us at false)) ≡ 0
cleared_more_suc [] at lt none = absurd (omega (arith, lt))
cleared_more_suc (u ∷ us) zero lt none = refl
cleared_more_suc (true ∷ us) (suc at) lt none = absurd (omega (arith, none))
cleared_more_suc (false ∷ us) (suc at) lt none = cleared_more_suc us at (omega (arith, lt)) none

more : (at : ℕ) → at + 1 ≡ suc at
more at = omega arith

pub cleared_more : (us : List Bool) (at : ℕ) → at < length us → count_used (take at us) ≡ 0 → count_used (take (at + 1) (set us at false)) ≡ 0
cleared_more us at lt none = ap (λ (n : ℕ). count_used (take n (set us at false))) (more at) ∙ cleared_more_suc us at lt none

pub used_of_all : (us : List Bool) (at : ℕ) → length us ≤ at → count_used (take at us) ≡ count_used us
used_of_all us at le = ap count_used (take_all at us le)

pub one_more_used : (us : List Bool) (k : ℕ) → count_used (set us k true) ≤ count_used us + 1
one_more_used [] k = omega arith
one_more_used (true ∷ us) zero = omega arith
one_more_used (false ∷ us) zero = omega arith
one_more_used (true ∷ us) (suc k) = omega (arith, one_more_used us k)
one_more_used (false ∷ us) (suc k) = one_more_used us k

pub used_within : (us : List Bool) (at : ℕ) → count_used (take at us) ≤ at
used_within [] zero = omega arith
used_within [] (suc at) = omega arith
used_within (u ∷ us) zero = omega arith
used_within (true ∷ us) (suc at) = omega (arith, used_within us at)
used_within (false ∷ us) (suc at) = omega (arith, used_within us at)

pub all_used : (us : List Bool) → ((at : ℕ) → get_or us at true ≡ true) → length us ≤ count_used us
all_used [] all = omega arith
all_used (true ∷ us) all = omega (arith, all_used us (λ at. all (suc at)))
all_used (false ∷ us) all = absurd (cc (all 0))

count_used_more_suc : (us : List Bool) (at : ℕ) → at < length us → get_or us at false ≡ true → count_used (take (suc at) us) ≡ count_used (take at us) + 1
count_used_more_suc [] at lt is = absurd (omega (arith, lt))
count_used_more_suc (true ∷ us) zero lt is = refl
count_used_more_suc (false ∷ us) zero lt is = absurd (cc is)
count_used_more_suc (true ∷ us) (suc at) lt is = omega (arith, count_used_more_suc us at (omega (arith, lt)) is)
count_used_more_suc (false ∷ us) (suc at) lt is = count_used_more_suc us at (omega (arith, lt)) is

count_used_same_suc : (us : List Bool) (at : ℕ) → at < length us → get_or us at false ≡ false → count_used (take (suc at) us) ≡ count_used (take at us)
count_used_same_suc [] at lt is = absurd (omega (arith, lt))
count_used_same_suc (true ∷ us) zero lt is = absurd (cc is)
count_used_same_suc (false ∷ us) zero lt is = refl
count_used_same_suc (true ∷ us) (suc at) lt is = omega (arith, count_used_same_suc us at (omega (arith, lt)) is)
count_used_same_suc (false ∷ us) (suc at) lt is = count_used_same_suc us at (omega (arith, lt)) is

pub count_used_more : (us : List Bool) (at : ℕ) → at < length us → get_or us at false ≡ true → count_used (take (at + 1) us) ≡ count_used (take at us) + 1
count_used_more us at lt is = ap (λ (n : ℕ). count_used (take n us)) (more at) ∙ count_used_more_suc us at lt is

pub count_used_same : (us : List Bool) (at : ℕ) → at < length us → get_or us at false ≡ false → count_used (take (at + 1) us) ≡ count_used (take at us)
count_used_same us at lt is = ap (λ (n : ℕ). count_used (take n us)) (more at) ∙ count_used_same_suc us at lt is
