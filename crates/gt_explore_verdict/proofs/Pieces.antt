-- An expression, piece by piece.
use Rattle.std.proofs.Common.{◌≡◌, refl, ℕ, List, [], ◌∷◌, ◌++◌, Option, None, Some, Result, Ok, Err}
use Rattle.gt_explore_verdict.specs.Expressions.{words_in}
use Rattle.gt_explore_verdict.specs.Formulas.{Op}
use Rattle.gt_explore_verdict.specs.Grammar.{Piece, mark_piece, piece_of_mark, pieces_between, pieces_of_words}
use Rattle.gt_explore_verdict.specs.Grammar.{words_piece}
use Rattle.gt_explore_verdict.specs.Reading.{ReadSoFar, ReaderAsked, end_read, first_mark, later_marks, mark_read}
use Rattle.gt_explore_verdict.specs.Reading.{parts_read}
use Rattle.gt_explore_verdict.specs.Reading.{segment_read, term_read, then_mark}
use Rattle.gt_explore_verdict.specs.declared.fault.ConditionFault.{ConditionFault}

-- what was read after one piece more, and after these
abbrev pub piece_read : ReaderAsked → Piece → ReadSoFar
piece_read r (words_piece word words) = term_read r (word ∷ words)
piece_read r (mark_piece mark) = mark_read r mark

abbrev pub pieces_read : ReadSoFar → List Piece → ReadSoFar
pieces_read (Err fault) ps = Err fault
pieces_read (Ok r) [] = Ok r
pieces_read (Ok r) (p ∷ ps) = pieces_read (piece_read r p) ps

-- the operations of an expression of which this was read, if these pieces follow
abbrev pub ended : ReadSoFar → List Piece → Result (List Op) (ℕ × ConditionFault)
ended x ps = end_read (pieces_read x ps)

-- the parts of a text are read as its pieces
pub parts_as_pieces : (r : ReaderAsked) (segments : List (List ℕ)) (marks : List ℕ)
    → parts_read (Ok r) segments marks ≡ pieces_read (Ok r) (pieces_between segments marks)
parts_as_pieces r [] marks = refl
parts_as_pieces r (segment ∷ segments) marks =
    of_words (λ s. parts_as_pieces s segments (later_marks marks)) (words_in segment) (first_mark marks)
  where
    after : ((s : ReaderAsked) → parts_read (Ok s) segments (later_marks marks)
        ≡ pieces_read (Ok s) (pieces_between segments (later_marks marks))) → (x : ReadSoFar)
        → parts_read x segments (later_marks marks) ≡ pieces_read x (pieces_between segments (later_marks marks))
    after rest (Err fault) = refl
    after rest (Ok s) = rest s

    of_mark : ((s : ReaderAsked) → parts_read (Ok s) segments (later_marks marks)
        ≡ pieces_read (Ok s) (pieces_between segments (later_marks marks))) → (x : ReadSoFar) (mark : Option ℕ)
        → parts_read (then_mark x mark) segments (later_marks marks)
        ≡ pieces_read x (piece_of_mark mark ++ pieces_between segments (later_marks marks))
    of_mark rest (Err fault) mark = refl
    of_mark rest (Ok s) None = rest s
    of_mark rest (Ok s) (Some mark) = after rest (mark_read s mark)

    of_words : ((s : ReaderAsked) → parts_read (Ok s) segments (later_marks marks)
        ≡ pieces_read (Ok s) (pieces_between segments (later_marks marks))) → (words : List (List ℕ)) (mark : Option ℕ)
        → parts_read (then_mark (segment_read r words) mark) segments (later_marks marks)
        ≡ pieces_read (Ok r)
        (pieces_of_words words ++ (piece_of_mark mark ++ pieces_between segments (later_marks marks)))
    of_words rest [] mark = of_mark rest (Ok r) mark
    of_words rest (word ∷ words) mark = of_mark rest (term_read r (word ∷ words)) mark
