-- How an expression is written: what `!`, `&`, `|` and brackets bind.
use Rattle.std.specs.Prelude.{◌≡◌, ℕ, ◌&&◌, ◌||◌, not, Bool, List, [], ◌∷◌, ◌++◌, filter, Ok, Option, Some, None}
use Rattle.std.specs.List.{slice_split}
use Rattle.gt_explore_verdict.specs.Expressions.{condition_of_words, words_in}
use Rattle.gt_explore_verdict.specs.Formulas.{Op, formula_of, satisfies}
use Rattle.gt_explore_verdict.specs.Reading.{first_mark, is_sign, later_marks, operations_in}
use Rattle.gt_explore_verdict.specs.Satisfying.{is_met_in, lines_in}

-- how loosely the parts of a phrase are bound
pub data Rank : Type 0 where
  operand : Rank
  conjunction : Rank
  disjunction : Rank

-- An expression as it is written. An operand is a term, by its words, an operand after `!`, or a disjunction in
-- brackets. A conjunction is an operand, or a conjunction, `&` and an operand. A disjunction is a conjunction, or a
-- disjunction, `|` and a conjunction.
pub data Phrase : Rank → Type 0 where
  term_phrase : List ℕ → List (List ℕ) → Phrase operand
  not_phrase : Phrase operand → Phrase operand
  bracket_phrase : Phrase disjunction → Phrase operand
  one_operand : Phrase operand → Phrase conjunction
  and_phrase : Phrase conjunction → Phrase operand → Phrase conjunction
  one_conjunction : Phrase conjunction → Phrase disjunction
  or_phrase : Phrase disjunction → Phrase conjunction → Phrase disjunction

-- it holds of a text with these lines
abbrev pub phrase_holds : {rank : Rank} → List (List ℕ) → Phrase rank → Bool
phrase_holds lines (term_phrase word words) = is_met_in (condition_of_words word words) lines
phrase_holds lines (not_phrase p) = not (phrase_holds lines p)
phrase_holds lines (bracket_phrase p) = phrase_holds lines p
phrase_holds lines (one_operand p) = phrase_holds lines p
phrase_holds lines (and_phrase p q) = phrase_holds lines p && phrase_holds lines q
phrase_holds lines (one_conjunction p) = phrase_holds lines p
phrase_holds lines (or_phrase p q) = phrase_holds lines p || phrase_holds lines q

-- a piece of an expression: the words of a term, or a mark
pub data Piece : Type 0 where
  words_piece : List ℕ → List (List ℕ) → Piece
  mark_piece : ℕ → Piece

-- the pieces of a phrase, in their order
abbrev pub phrase_pieces : {rank : Rank} → Phrase rank → List Piece
phrase_pieces (term_phrase word words) = words_piece word words ∷ []
phrase_pieces (not_phrase p) = mark_piece 33 ∷ phrase_pieces p
phrase_pieces (bracket_phrase p) = mark_piece 40 ∷ (phrase_pieces p ++ mark_piece 41 ∷ [])
phrase_pieces (one_operand p) = phrase_pieces p
phrase_pieces (and_phrase p q) = phrase_pieces p ++ mark_piece 38 ∷ phrase_pieces q
phrase_pieces (one_conjunction p) = phrase_pieces p
phrase_pieces (or_phrase p q) = phrase_pieces p ++ mark_piece 124 ∷ phrase_pieces q

-- the pieces of a text: between its marks, if there are words, and the marks
abbrev pub pieces_of_words : List (List ℕ) → List Piece
pieces_of_words [] = []
pieces_of_words (word ∷ words) = words_piece word words ∷ []

abbrev pub piece_of_mark : Option ℕ → List Piece
piece_of_mark None = []
piece_of_mark (Some mark) = mark_piece mark ∷ []

abbrev pub pieces_between : List (List ℕ) → List ℕ → List Piece
pieces_between [] marks = []
pieces_between (segment ∷ segments) marks =
    pieces_of_words (words_in segment)
    ++ (piece_of_mark (first_mark marks) ++ pieces_between segments (later_marks marks))

abbrev pub pieces_in : List ℕ → List Piece
pieces_in text = pieces_between (slice_split is_sign text) (filter is_sign text)

-- an expression that is written as a phrase, and that is read, is satisfied by the texts of which the phrase holds
abbrev pub IsReadAsWritten : Phrase disjunction → List ℕ → Type 0
IsReadAsWritten phrase expression =
    pieces_in expression ≡ phrase_pieces phrase → (ops : List Op) → operations_in expression ≡ Ok ops
    → (text : List ℕ) → satisfies (formula_of ops) text ≡ phrase_holds (lines_in text) phrase

-- an expression that is read is written as some phrase
abbrev pub IsWrittenAsPhrase : List ℕ → Type 0
IsWrittenAsPhrase expression =
    (ops : List Op) → operations_in expression ≡ Ok ops
    → (phrase : Phrase disjunction) × (pieces_in expression ≡ phrase_pieces phrase)
