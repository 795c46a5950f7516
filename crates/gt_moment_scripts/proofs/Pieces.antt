-- Pieces of texts.
use Rattle.std.proofs.Common.{◌≡◌, ◌∙◌, ◌++◌, ℕ, true, List, ap, drop, length, subst, sym, take}
use Rattle.std.proofs.lemmas.List.{take-append-drop}
use Rattle.std.proofs.lemmas.Slice.Eq.{bytes_eq-Decides}
use Rattle.gt_explore_witness.specs.GivingAnswers.{begins_with}
use Rattle.gt_moment_scripts.specs.Showing.{HasPiece}

-- a text that has a piece at a position has the piece
pub piece_at : (text piece : List ℕ) (at : ℕ) → begins_with piece (drop at text) ≡ true → HasPiece text piece
piece_at text piece at same =
    let n = length piece in
    let h : piece ≡ take n (drop at text) = (bytes_eq-Decides piece (take n (drop at text))).0 same in (
      take at text,
      drop n (drop at text),
      sym (take-append-drop at text)
          ∙ ap (λ (l : List ℕ). take at text ++ l) (sym (take-append-drop n (drop at text)) ∙ ap (λ (p : List ℕ). p ++ drop n (drop at text)) (sym h)),
    )

-- the same by other names
pub piece_of : (text other piece others : List ℕ) → text ≡ other → piece ≡ others → HasPiece text piece → HasPiece other others
piece_of text other piece others t p has =
    subst (λ (x : List ℕ). HasPiece x others) t (subst (λ (y : List ℕ). HasPiece text y) p has)
