-- A record that is covered by later ones shows no byte.
use Rattle.std.proofs.Common.{◌≡◌, ℕ, ◌+◌, ◌-◌, ◌<◌, ◌≤◌, ◌⊎◌, inl, inr, Bool, true, false, ◌||◌, List, [], ◌∷◌, ◌++◌}
use Rattle.std.proofs.Common.{length, get_or, refl, sym, ◌∙◌, ap, arith}
use Rattle.std.proofs.lemmas.Bool.{cases_lt}
use Rattle.std.proofs.lemmas.List.{ext_get_or, length-replicate}
use Rattle.gt_types.specs.declared.limits.TheConstants.{FRAME_SIZE}
use Rattle.gt_frames.specs.declared.writ.WriteRecord.{WriteRecord}
use Rattle.gt_model.specs.Written.{overlay, zeros, replay, written, IsLaidOver}
use Rattle.gt_frames.specs.Covering.{IsCovered, LieInside, some_has}
use Rattle.gt_frames.specs.Frames.{patches}
use Rattle.gt_frames.specs.Writers.{has_byte}
use Rattle.gt_frames.proofs.Overlay.{laid_over}
use Rattle.gt_frames.proofs.Shown.{in_range, out_of_range}
use Rattle.gt_frames.proofs.Writes.{zeros_are}

-- both lists have as many bytes as a frame, and are the same at each byte that none of these records has
record AreSameBut (rs : List WriteRecord) (xs ys : List ℕ) : Type 0 where
  left : length xs ≡ FRAME_SIZE
  right : length ys ≡ FRAME_SIZE
  same : (at : ℕ) → some_has rs at ≡ false → get_or xs at 0 ≡ get_or ys at 0

-- a byte in a record's range, or outside it
place : (r : WriteRecord) (at : ℕ) → ((r.off ≤ at) × (at < r.off + length r.bytes)) ⊎ ((at < r.off) ⊎ (r.off + length r.bytes ≤ at))
place r at =
    elim (cases_lt at r.off) [
      | inl below ↦ inr (inl below)
      | inr le ↦ elim (cases_lt at (r.off + length r.bytes)) [ inl lt ↦ inl (le, lt) | inr above ↦ inr (inr above) ]
    ]

module _ (xs : List ℕ) (r : WriteRecord) (size : length xs ≡ FRAME_SIZE) (fits : r.off + length r.bytes ≤ FRAME_SIZE) where
  over : IsLaidOver xs r.off r.bytes (overlay xs r.off r.bytes)
  over = laid_over xs r.off r.bytes (omega (arith, size, fits))

  read-in : (at : ℕ) → r.off ≤ at → at < r.off + length r.bytes → get_or (overlay xs r.off r.bytes) at 0 ≡ get_or r.bytes (at - r.off) 0
  read-in at le lt =
      let back : r.off + (at - r.off) ≡ at = omega (arith, le) in
      ap (λ (k : ℕ). get_or (overlay xs r.off r.bytes) k 0) (sym back) ∙ over.inside (at - r.off) (omega (arith, le, lt))

  read-out : (at : ℕ) → (at < r.off) ⊎ (r.off + length r.bytes ≤ at) → get_or (overlay xs r.off r.bytes) at 0 ≡ get_or xs at 0
  read-out at (inl lt) = over.before at lt
  read-out at (inr le) = over.after at le

-- after one of the records they differ only at bytes that the other records have
one-less :
    (q : WriteRecord) (qs : List WriteRecord) (xs ys : List ℕ) → q.off + length q.bytes ≤ FRAME_SIZE → AreSameBut (q ∷ qs) xs ys
    → AreSameBut qs (overlay xs q.off q.bytes) (overlay ys q.off q.bytes)
one-less q qs xs ys fits same =
    record {
      left = (over xs q same.left fits).len ∙ same.left;
      right = (over ys q same.right fits).len ∙ same.right;
      same = λ at none. elim (place q at) [
        | inl y ↦ read-in xs q same.left fits at y.0 y.1 ∙ sym (read-in ys q same.right fits at y.0 y.1)
        | inr y ↦
            let out_of_it : has_byte q at ≡ false = out_of_range q.off (length q.bytes) at y in
            read-out xs q same.left fits at y ∙ same.same at (ap (λ (b : Bool). b || some_has qs at) out_of_it ∙ none)
            ∙ sym (read-out ys q same.right fits at y)
      ];
    }

-- so their replays are equal
same-replay : (rs : List WriteRecord) (xs ys : List ℕ) → LieInside rs → AreSameBut rs xs ys → replay xs (patches rs) ≡ replay ys (patches rs)
same-replay [] xs ys inside same = ext_get_or 0 xs ys (same.left ∙ sym same.right) (λ at lt. same.same at refl)
same-replay (q ∷ qs) xs ys inside same = same-replay qs _ _ inside.1 (one-less q qs xs ys inside.0 same)

-- laying the record over changes only bytes that later records have
covered-same : (r : WriteRecord) (later : List WriteRecord) (xs : List ℕ) → length xs ≡ FRAME_SIZE → r.off + length r.bytes ≤ FRAME_SIZE → IsCovered r later
    → AreSameBut later (overlay xs r.off r.bytes) xs
covered-same r later xs size fits covered =
    record {
      left = (over xs r size fits).len ∙ size;
      right = size;
      same = λ at none. elim (place r at) [
        | inl y ↦
            let has : some_has later at ≡ true = covered at (in_range r.off (length r.bytes) at y.0 y.1) in
            absurd (cc (has, none))
        | inr y ↦ read-out xs r size fits at y
      ];
    }

-- an overlay keeps the size of a frame
pub size-overlay : (xs : List ℕ) (r : WriteRecord) → length xs ≡ FRAME_SIZE → r.off + length r.bytes ≤ FRAME_SIZE → length (overlay xs r.off r.bytes) ≡ FRAME_SIZE
size-overlay xs r size fits = (over xs r size fits).len ∙ size

pub left-out-of : (before later : List WriteRecord) (r : WriteRecord) (xs : List ℕ) → length xs ≡ FRAME_SIZE → LieInside (before ++ r ∷ later) → IsCovered r later
    → replay xs (patches (before ++ r ∷ later)) ≡ replay xs (patches (before ++ later))
left-out-of [] later r xs size inside covered = same-replay later _ _ inside.1 (covered-same r later xs size inside.0 covered)
left-out-of (q ∷ before) later r xs size inside covered =
    left-out-of before later r (overlay xs q.off q.bytes) ((over xs q size inside.0).len ∙ size) inside.1 covered

pub zeros-size : length zeros ≡ FRAME_SIZE
zeros-size = ap (λ (l : List ℕ). length l) (sym zeros_are) ∙ length-replicate {A = ℕ} FRAME_SIZE 0

pub left-out : (before later : List WriteRecord) (r : WriteRecord) → LieInside (before ++ r ∷ later) → IsCovered r later
    → written (patches (before ++ r ∷ later)) ≡ written (patches (before ++ later))
left-out before later r inside covered = left-out-of before later r zeros zeros-size inside covered
