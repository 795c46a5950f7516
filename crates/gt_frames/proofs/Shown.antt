-- The last writer of each byte: the numbers of bytes, and the writs of the numbers.
use Rattle.std.proofs.Common.{◌≡◌, ◌≢◌, ℕ, zero, suc, ◌+◌, ◌-◌, ◌<◌, ◌≤◌, ◌⊎◌, inl, inr, Bool, true, false}
use Rattle.std.proofs.Common.{if◌then◌else◌, ◌&&◌, nat_le, nat_lt, Option, Some, None, ◌++◌, List, [], ◌∷◌, length}
use Rattle.std.proofs.Common.{replicate, get_or, set, refl, sym, ◌∙◌, ap, subst, arith}
use Rattle.std.proofs.lemmas.Bool.{cases_lt}
use Rattle.std.proofs.lemmas.Bool.Decides.{nat_tests}
use Rattle.std.proofs.lemmas.List.{ext_get_or, get_or-set_other, get_or-set_same, length-replicate}
use Rattle.gt_types.specs.declared.limits.TheConstants.{FRAME_SIZE}
use Rattle.gt_model.specs.Written.{overlay}
use Rattle.gt_frames.specs.declared.writ.Writ.{Writ}
use Rattle.gt_frames.specs.declared.writ.WriteRecord.{WriteRecord}
use Rattle.gt_frames.specs.declared.writers.Writers.{Writers}
use Rattle.gt_frames.specs.Frames.{recorded}
use Rattle.gt_frames.specs.Writers.{AreWriters, HasWrit, IsUsed, KnowsWriters, ShowsSame, has_byte, last_writ, shown}
use Rattle.gt_frames.specs.Writers.{writ_under, numbers_of, LiesIn, most_writs}
use Rattle.gt_frames.proofs.Stretches.{length_numbers, no_stretch, range-read, same-read, zero-read}

-- a marked slot stays marked when another is marked
pub used-set : (used : List Bool) (place n : ℕ) → IsUsed used n → IsUsed (set used place true) n
used-set used place zero is = tt
used-set [] place (suc m) is = refl
used-set (u ∷ used) zero (suc zero) is = refl
used-set (u ∷ used) zero (suc (suc m)) is = is
used-set (u ∷ used) (suc place) (suc zero) is = is
used-set (u ∷ used) (suc place) (suc (suc m)) is = used-set used place (suc m) is

pub used-here : (used : List Bool) (place : ℕ) → IsUsed (set used place true) (suc place)
used-here [] place = refl
used-here (u ∷ used) zero = refl
used-here (u ∷ used) (suc place) = used-here used place

pub used-number : (used : List Bool) (n : ℕ) → 0 < n → IsUsed (set used (n - 1) true) n
used-number used zero lt = absurd (omega arith)
used-number used (suc m) lt = let same : suc m - 1 ≡ m = omega arith in subst (λ (k : ℕ). IsUsed (set used k true) (suc m)) (sym same) (used-here used m)

pub used-zero : (used : List Bool) (n : ℕ) → n ≤ 0 → IsUsed used n
used-zero used zero le = tt
used-zero used (suc n) le = absurd (omega arith)

-- one more of the numbers is this one
pub one-more-set : (xs : List ℕ) (n at : ℕ) → at < length xs → ((k : ℕ) → k < at → get_or xs k 0 ≡ n) → (k : ℕ) → k < at + 1 → get_or (set xs at n) k 0 ≡ n
one-more-set xs n at inside all k lt = elim (cases_lt k at) [
  | inl below ↦ let other : k ≢ at = omega (arith, below) in get_or-set_other xs at k n 0 other ∙ all k below
  | inr le ↦ let same : k ≡ at = omega (arith, lt, le) in ap (λ (j : ℕ). get_or (set xs at n) j 0) same ∙ get_or-set_same xs at n 0 inside
]

-- all of them are
pub all-set : (xs : List ℕ) (n len at : ℕ) → length xs ≡ len → len ≤ at → ((k : ℕ) → k < at → get_or xs k 0 ≡ n) → xs ≡ replicate len n
all-set xs n len at size le all =
    ext_get_or 0 xs (replicate len n) (size ∙ sym (length-replicate {A = ℕ} len n))
    (λ k lt. all k (omega (arith, size, lt, le)) ∙ sym (same-read len n k (omega (arith, size, lt))))

pub empty_read : (xs : List ℕ) (at : ℕ) → length xs ≡ 0 → get_or xs at 0 ≡ 0
empty_read [] at none = refl
empty_read (x ∷ xs) at none = absurd (omega (arith, none))

module _
    (w v : Writers) (writs : v.writs ≡ w.writs) (used : v.used ≡ w.used) (limit : v.limit ≡ w.limit) (last : v.last ≡ w.last)
    (last_writ : v.last_writ ≡ w.last_writ) (sound : AreWriters w)
  where
    same-writs : v.writs.items ≡ w.writs.items
    same-writs = ap (λ x. x.items) writs

    same-used : v.used.items ≡ w.used.items
    same-used = ap (λ x. x.items) used

    same-places : length v.used.items ≡ length v.writs.items
    same-places = ap (λ x. length x.items) used ∙ sound.places ∙ sym (ap (λ x. length x.items) writs)

    count : length v.writs.items ≡ length w.writs.items
    count = ap (λ x. length x.items) writs

    still-few : length v.writs.items ≤ most_writs
    still-few = omega (arith, count, sound.few)

    still-looks : v.limit ≤ most_writs
    still-looks = omega (arith, limit, sound.looks)

    had-last : 0 < v.last → 0 < w.last
    had-last lt = omega (arith, last, lt)

    has-last : 0 < v.last → HasWrit v v.last v.last_writ
    has-last lt =
        let had : HasWrit w w.last w.last_writ = sound.last.has (had-last lt) in
        record {
          is =
              ap (λ (ws : List Writ). writ_under ws v.last) same-writs ∙ ap (λ (n : ℕ). writ_under w.writs.items n) last ∙ had.is
              ∙ ap (λ (x : Writ). Some x) (sym last_writ);
          within = omega (arith, last, count, had.within);
          used = subst (λ (us : List Bool). IsUsed us v.last) (sym same-used) (subst (λ (n : ℕ). IsUsed w.used.items n) (sym last) had.used);
        }

    -- a range was given the number of a writ
    pub sound_show :
        (n off len : ℕ) → length w.below.items ≡ FRAME_SIZE → off + len ≤ FRAME_SIZE → n ≤ length w.writs.items → IsUsed w.used.items n
        → length v.below.items ≡ length w.below.items → LiesIn v.latest v.below.items
        → numbers_of v.below.items v.latest ≡ overlay (numbers_of w.below.items w.latest) off (replicate len n) → AreWriters v
    sound_show n off len size fits within marked long lies laid =
        let old : List ℕ = numbers_of w.below.items w.latest in
        let all : length old ≡ length w.below.items = length_numbers w.below.items w.latest sound.lies in
        let fits_in : off + len ≤ length old = omega (arith, size, fits, all) in
        let read : (at : ℕ) → get_or (numbers_of v.below.items v.latest) at 0 ≡ get_or (overlay old off (replicate len n)) at 0 = λ at. ap (λ (xs : List ℕ). get_or xs at 0) laid in
        record {
          size = inr (long ∙ size);
          lies = lies;
          within = λ at. elim (range-read old off len n at fits_in) [
            | inl y ↦ omega (arith, read at, y.2, within, count)
            | inr y ↦ omega (arith, read at, y.1, sound.within at, count)
          ];
          marked = λ at. subst (λ (us : List Bool). IsUsed us (get_or (numbers_of v.below.items v.latest) at 0)) (sym same-used) (elim (range-read old off len n at fits_in) [
            | inl y ↦ subst (λ (k : ℕ). IsUsed w.used.items k) (sym (read at ∙ y.2)) marked
            | inr y ↦ subst (λ (k : ℕ). IsUsed w.used.items k) (sym (read at ∙ y.1)) (sound.marked at)
          ]);
          places = same-places;
          few = still-few;
          looks = still-looks;
          last = record { has = has-last; len = λ lt. long ∙ size };
        }

    -- the numbers of all bytes were made, and there were none before
    module _ (same : v.latest ≡ w.latest) (zeros : v.below.items ≡ replicate FRAME_SIZE 0) (none : length w.below.items ≡ 0) where
      start : v.latest.off ≡ 0
      start = let e : v.latest.off ≡ w.latest.off = ap (λ s. s.off) same in omega (arith, e, sound.lies, none)

      nothing : v.latest.len ≡ 0
      nothing = let e : v.latest.len ≡ w.latest.len = ap (λ s. s.len) same in omega (arith, e, sound.lies, none)

      no-number : (at : ℕ) → get_or (numbers_of v.below.items v.latest) at 0 ≡ 0
      no-number at =
          ap (λ (xs : List ℕ). get_or xs at 0) (no_stretch v.below.items v.latest start nothing ∙ zeros) ∙ zero-read FRAME_SIZE at

      had-none : (at : ℕ) → get_or (numbers_of w.below.items w.latest) at 0 ≡ 0
      had-none at = empty_read (numbers_of w.below.items w.latest) at (length_numbers w.below.items w.latest sound.lies ∙ none)

      pub sound_zeros : AreWriters v
      sound_zeros =
          record {
            size = inr (ap (λ (xs : List ℕ). length xs) zeros ∙ length-replicate {A = ℕ} FRAME_SIZE 0);
            lies = omega (arith, start, nothing);
            within = λ at. omega (arith, no-number at);
            marked = λ at. used-zero v.used.items (get_or (numbers_of v.below.items v.latest) at 0) (omega (arith, no-number at));
            places = same-places;
            few = still-few;
            looks = still-looks;
            last = record { has = has-last; len = λ lt. ap (λ (xs : List ℕ). length xs) zeros ∙ length-replicate {A = ℕ} FRAME_SIZE 0 };
          }

      pub shows_zeros : ShowsSame w v
      shows_zeros = λ at.
          ap (λ (ws : List Writ). writ_under ws (get_or (numbers_of v.below.items v.latest) at 0)) same-writs
          ∙ ap (λ (k : ℕ). writ_under w.writs.items k) (no-number at ∙ sym (had-none at))

-- the last writ after one more record
last_writ-append : (rs : List WriteRecord) (r : WriteRecord) (at : ℕ) (w : Option Writ)
    → last_writ (rs ++ r ∷ []) at w ≡ (if has_byte r at then Some r.writ else last_writ rs at w)
last_writ-append [] r at w = refl
last_writ-append (q ∷ rs) r at w = last_writ-append rs r at (if has_byte q at then Some q.writ else w)

pub in_range : (off len at : ℕ) → off ≤ at → at < off + len → nat_le off at && nat_lt at (off + len) ≡ true
in_range off len at le lt = grind (arith, nat_tests)

pub out_of_range : (off len at : ℕ) → (at < off) ⊎ (off + len ≤ at) → nat_le off at && nat_lt at (off + len) ≡ false
out_of_range off len at (inl lt) = grind (arith, nat_tests)
out_of_range off len at (inr le) = grind (arith, nat_tests)

module _ (w v : Writers) (journal new : List WriteRecord) (writ : Writ) (n off : ℕ) (ys : List ℕ) where
  -- after a write to a range, its bytes have its writ, and all others the writ that they had
  pub knows_after :
      (u : Writers) → AreWriters u → ShowsSame w u → KnowsWriters w journal
      → HasWrit u n writ → length u.below.items ≡ FRAME_SIZE → off + length ys ≤ FRAME_SIZE
      → AreWriters v → v.writs ≡ u.writs → numbers_of v.below.items v.latest ≡ overlay (numbers_of u.below.items u.latest) off (replicate (length ys) n)
      → new ≡ recorded journal writ off ys → KnowsWriters v new
  knows_after u before same knows has size fits sound writs laid adds =
      let r : WriteRecord = record { writ = writ; off = off; bytes = ys } in
      let old : List ℕ = numbers_of u.below.items u.latest in
      let all : length old ≡ length u.below.items = length_numbers u.below.items u.latest before.lies in
      let fits_in : off + length ys ≤ length old = omega (arith, size, fits, all) in
      let read : (at : ℕ) → shown v at ≡ writ_under u.writs.items (get_or (overlay old off (replicate (length ys) n)) at 0) =
      λ at. ap (λ ws. writ_under ws.items (get_or (numbers_of v.below.items v.latest) at 0)) writs ∙ ap (λ (xs : List ℕ). writ_under u.writs.items (get_or xs at 0)) laid in
      let last : (at : ℕ) → last_writ new at None ≡ (if has_byte r at then Some writ else last_writ journal at None) =
      λ at. ap (λ (rs : List WriteRecord). last_writ rs at None) adds ∙ last_writ-append journal r at None in
      record {
        sound = sound;
        shows = λ at. elim (range-read old off (length ys) n at fits_in) [
          | inl y ↦
              let in_it : has_byte r at ≡ true = in_range off (length ys) at y.0 y.1 in
              read at ∙ ap (λ (k : ℕ). writ_under u.writs.items k) y.2 ∙ has.is
              ∙ sym (last at ∙ ap (λ (b : Bool). if b then Some writ else last_writ journal at None) in_it)
          | inr y ↦
              let out_of_it : has_byte r at ≡ false = out_of_range off (length ys) at y.0 in
              read at ∙ ap (λ (k : ℕ). writ_under u.writs.items k) y.1 ∙ same at ∙ knows.shows at
              ∙ sym (last at ∙ ap (λ (b : Bool). if b then Some writ else last_writ journal at None) out_of_it)
        ];
      }

-- writers that show the same
pub knows_same : (w v : Writers) (journal : List WriteRecord) → KnowsWriters w journal → AreWriters v → ShowsSame w v → KnowsWriters v journal
knows_same w v journal knows sound same = record { sound = sound; shows = λ at. same at ∙ knows.shows at }
