-- Overlays, byte by byte.
use Rattle.std.proofs.Common.{◌≡◌, ℕ, ◌+◌, ◌-◌, ◌<◌, ◌≤◌, List, ◌++◌, take, drop, length, get_or, sym, ◌∙◌, ap, arith}
use Rattle.std.proofs.Common.{length-append, length-drop}
use Rattle.std.proofs.lemmas.List.{length-take-le, get_or-take, get_or-drop, get_or_append_left, get_or-append-add}
use Rattle.std.proofs.lemmas.List.{get_or-append_right}
use Rattle.gt_model.specs.Written.{overlay, IsLaidOver}

module _ (xs : List ℕ) (off : ℕ) (ys : List ℕ) (fits : off + length ys ≤ length xs) where
  front : length (take off xs) ≡ off
  front = length-take-le off xs (omega arith)

  head : length (take off xs ++ ys) ≡ off + length ys
  head = omega (arith, length-append (take off xs) ys, front)

  pub length-overlay : length (overlay xs off ys) ≡ length xs
  length-overlay = omega (arith, head, length-append (take off xs ++ ys) (drop (off + length ys) xs), length-drop (off + length ys) xs)

  inside : (at : ℕ) → at < length ys → get_or (overlay xs off ys) (off + at) 0 ≡ get_or ys at 0
  inside at within =
      get_or_append_left (take off xs ++ ys) (drop (off + length ys) xs) 0 (off + at) (omega (arith, head))
      ∙ ap (λ (n : ℕ). get_or (take off xs ++ ys) (n + at) 0) (sym front)
      ∙ get_or-append-add (take off xs) ys at 0

  before : (at : ℕ) → at < off → get_or (overlay xs off ys) at 0 ≡ get_or xs at 0
  before at below =
      get_or_append_left (take off xs ++ ys) (drop (off + length ys) xs) 0 at (omega (arith, head))
      ∙ get_or_append_left (take off xs) ys 0 at (omega (arith, front))
      ∙ get_or-take off xs at 0 below

  after : (at : ℕ) → off + length ys ≤ at → get_or (overlay xs off ys) at 0 ≡ get_or xs at 0
  after at above =
      let back : off + length ys + (at - (off + length ys)) ≡ at = omega arith in
      get_or-append_right (take off xs ++ ys) (drop (off + length ys) xs) (off + length ys) at 0 head above
      ∙ get_or-drop (off + length ys) xs (at - (off + length ys)) 0
      ∙ ap (λ (n : ℕ). get_or xs n 0) back

  -- an overlay has the new bytes in its range, and elsewhere the old ones
  pub laid_over : IsLaidOver xs off ys (overlay xs off ys)
  laid_over = record { len = length-overlay; inside = inside; before = before; after = after }
