-- Bytes with zeros after them, and bytes laid over them.
use Rattle.std.proofs.Common.{◌≡◌, ℕ, ◌+◌, ◌-◌, ◌<◌, ◌≤◌, Bool, true, false, cond, ltb, List, [], ◌∷◌, ◌++◌, length}
use Rattle.std.proofs.Common.{take, drop, replicate, get_or, refl, sym, ap, ◌∙◌, arith, length-append, length-drop}
use Rattle.std.proofs.lemmas.List.{length-take-le, length-replicate, get_or-take, get_or-drop, get_or_append_left}
use Rattle.std.proofs.lemmas.List.{get_or-append_right, get_or_past, get_or-replicate, take_all}
use Rattle.std.proofs.lemmas.List.Edits.{length-between, get_or-between}
use Rattle.std.proofs.lemmas.Grind.{same_number_lists}
use Rattle.std.specs.Prelude.{slice_range, min}
use Rattle.std.proofs.lemmas.Bool.Decides.{nat_tests}
use Rattle.gt_types.specs.declared.limits.TheConstants.{FRAME_SIZE}
use Rattle.gt_model.specs.Written.{overlay}
use Rattle.gt_explore_state.specs.Pages.{padded}

-- so many zeros
abbrev zeros_of : ℕ → List ℕ
zeros_of n = replicate n 0

-- the byte at a place, 0 past the end
abbrev byte_at : List ℕ → ℕ → ℕ
byte_at xs i = get_or xs i 0

pub at-zeros : (n i : ℕ) → byte_at (zeros_of n) i ≡ 0
at-zeros n i = by (ltb i n) refl where
  by : (b : Bool) → ltb i n ≡ b → byte_at (zeros_of n) i ≡ 0
  by true e = get_or-replicate n i 0 0 (grind (arith, nat_tests))
  by false e = let past : n ≤ i = grind (arith, nat_tests) in get_or_past (zeros_of n) i 0 (omega (arith, length-replicate {A = ℕ} n 0))

pub at-lengthened : (xs : List ℕ) (n i : ℕ) → get_or (xs ++ replicate n 0) i 0 ≡ get_or xs i 0
at-lengthened [] n i = at-zeros n i ∙ sym (get_or_past [] i 0 (omega arith))
at-lengthened (x ∷ xs) n i = by (ltb i (length (x ∷ xs))) refl where
  by : (b : Bool) → ltb i (length (x ∷ xs)) ≡ b → get_or ((x ∷ xs) ++ replicate n 0) i 0 ≡ get_or (x ∷ xs) i 0
  by true e = get_or_append_left (x ∷ xs) (replicate n 0) 0 i (grind (arith, nat_tests))
  by false e = let past : length (x ∷ xs) ≤ i = grind (arith, nat_tests) in
      get_or-append_right (x ∷ xs) (replicate n 0) (length (x ∷ xs)) i 0 refl past ∙ at-zeros n (i - length (x ∷ xs)) ∙ sym (get_or_past (x ∷ xs) i 0 past)

pub length-padded : (xs : List ℕ) → length (padded xs) ≡ length xs + (FRAME_SIZE - length xs)
unfolding padded
length-padded xs = length-append xs (replicate (FRAME_SIZE - length xs) 0) ∙ ap (λ (n : ℕ). length xs + n) (length-replicate (FRAME_SIZE - length xs) 0)

pub at-padded : (xs : List ℕ) (i : ℕ) → get_or (padded xs) i 0 ≡ get_or xs i 0
unfolding padded
at-padded xs i = at-lengthened xs (FRAME_SIZE - length xs) i

-- what stands at a place of an overlay
pub at-overlay : (xs : List ℕ) (off : ℕ) (ys : List ℕ) (k : ℕ) → off ≤ length xs
    → get_or (overlay xs off ys) k 0 ≡ cond (ltb k off) (get_or xs k 0) (cond (ltb k (off + length ys)) (get_or ys (k - off) 0) (get_or xs k 0))
at-overlay xs off ys k fits = by (ltb k off) refl (ltb k (off + length ys)) refl where
  front : length (take off xs) ≡ off
  front = length-take-le off xs fits

  head : length (take off xs ++ ys) ≡ off + length ys
  head = omega (arith, length-append (take off xs) ys, front)

  by : (a : Bool) → ltb k off ≡ a → (b : Bool) → ltb k (off + length ys) ≡ b → get_or (overlay xs off ys) k 0 ≡ cond a (get_or xs k 0) (cond b (get_or ys (k - off) 0) (get_or xs k 0))
  by true e b f = let below : k < off = grind (arith, nat_tests) in
      get_or_append_left (take off xs ++ ys) (drop (off + length ys) xs) 0 k (omega (arith, head)) ∙ get_or_append_left (take off xs) ys 0 k (omega (arith, front)) ∙ get_or-take off xs k 0 below
  by false e true f = let from : off ≤ k = grind (arith, nat_tests) in let below : k < off + length ys = grind (arith, nat_tests) in
      get_or_append_left (take off xs ++ ys) (drop (off + length ys) xs) 0 k (omega (arith, head)) ∙ get_or-append_right (take off xs) ys off k 0 front from
  by false e false f = let above : off + length ys ≤ k = grind (arith, nat_tests) in let back : off + length ys + (k - (off + length ys)) ≡ k = omega arith in
      get_or-append_right (take off xs ++ ys) (drop (off + length ys) xs) (off + length ys) k 0 head above ∙ get_or-drop (off + length ys) xs (k - (off + length ys)) 0 ∙ ap (λ (n : ℕ). get_or xs n 0) back

pub length-overlay : (xs : List ℕ) (off : ℕ) (ys : List ℕ) → off ≤ length xs → length (overlay xs off ys) ≡ off + length ys + (length xs - (off + length ys))
length-overlay xs off ys fits = omega (arith, length-take-le off xs fits, length-append (take off xs) ys, length-append (take off xs ++ ys) (drop (off + length ys) xs), length-drop (off + length ys) xs)

-- bytes laid over bytes that were made long enough
pub laid-padded : (xs : List ℕ) (off : ℕ) (ys : List ℕ) → off ≤ FRAME_SIZE
    → padded (overlay (xs ++ replicate (off + length ys - length xs) 0) off ys) ≡ overlay (padded xs) off ys
laid-padded xs off ys fits = same_number_lists _ _ lengths (λ k _. same k) where
  zs : List ℕ
  zs = xs ++ replicate (off + length ys - length xs) 0

  long : length zs ≡ length xs + (off + length ys - length xs)
  long = length-append xs (replicate (off + length ys - length xs) 0) ∙ ap (λ (n : ℕ). length xs + n) (length-replicate (off + length ys - length xs) 0)

  within : off ≤ length zs
  within = omega (arith, long)

  room : off ≤ length (padded xs)
  room = omega (arith, length-padded xs)

  lengths : length (padded (overlay zs off ys)) ≡ length (overlay (padded xs) off ys)
  lengths = omega (arith, length-padded (overlay zs off ys), length-overlay zs off ys within, length-overlay (padded xs) off ys room, length-padded xs, long)

  same : (k : ℕ) → get_or (padded (overlay zs off ys)) k 0 ≡ get_or (overlay (padded xs) off ys) k 0
  same k = at-padded (overlay zs off ys) k ∙ at-overlay zs off ys k within
      ∙ ap (λ (n : ℕ). cond (ltb k off) n (cond (ltb k (off + length ys)) (get_or ys (k - off) 0) n)) (at-lengthened xs (off + length ys - length xs) k ∙ sym (at-padded xs k))
      ∙ sym (at-overlay (padded xs) off ys k room)

-- a range of a frame, byte by byte
pub range-is : (xs out : List ℕ) (off len : ℕ) → off + len ≤ FRAME_SIZE → length out ≡ len → ((k : ℕ) → k < len → get_or out k 0 ≡ get_or xs (off + k) 0) → out ≡ take len (drop off (padded xs))
range-is xs out off len fits long each = same_number_lists out (take len (drop off (padded xs))) (long ∙ sym lengths) (λ k below. same k (omega arith)) where
  lengths : length (take len (drop off (padded xs))) ≡ len
  lengths = length-take-le len (drop off (padded xs)) (omega (arith, length-drop off (padded xs), length-padded xs))

  same : (k : ℕ) → k < len → get_or out k 0 ≡ get_or (take len (drop off (padded xs))) k 0
  same k below = each k below ∙ sym (get_or-take len (drop off (padded xs)) k 0 below ∙ get_or-drop off (padded xs) k 0 ∙ at-padded xs (off + k))

-- what is read: a part of the bytes that there are, and zeros
pub read-is : (bs out : List ℕ) (off len start end : ℕ) → off + len ≤ FRAME_SIZE → start ≡ min off (length bs) → end ≡ min (off + len) (length bs)
    → out ≡ take len (slice_range bs start end) ++ replicate (len - length (slice_range bs start end)) 0 → out ≡ take len (drop off (padded bs))
read-is bs out off len start end fits first last e = range-is bs out off len fits long each where
  part : List ℕ
  part = slice_range bs start end

  size : length part ≡ end - start
  size = length-between bs start end (omega arith)

  whole : take len part ≡ part
  whole = take_all len part (omega (arith, size))

  long : length out ≡ len
  long = ap length e ∙ length-append (take len part) (zeros_of (len - length part)) ∙ omega (arith, ap length whole, size, length-replicate {A = ℕ} (len - length part) 0)

  inside : (k : ℕ) → (b : Bool) → ltb k (end - start) ≡ b → k < len → byte_at part k ≡ byte_at bs (off + k)
  inside k true below within = let at : start + k ≡ off + k = grind (arith, nat_tests) in get_or-between bs start end k 0 (grind (arith, nat_tests)) ∙ ap (byte_at bs) at
  inside k false above within = get_or_past part k 0 (grind (arith, nat_tests, size)) ∙ sym (get_or_past bs (off + k) 0 (grind (arith, nat_tests)))

  each : (k : ℕ) → k < len → byte_at out k ≡ byte_at bs (off + k)
  each k below = ap (λ (l : List ℕ). byte_at l k) e ∙ at-lengthened (take len part) (len - length part) k ∙ ap (λ (l : List ℕ). byte_at l k) whole ∙ inside k (ltb k (end - start)) refl below
