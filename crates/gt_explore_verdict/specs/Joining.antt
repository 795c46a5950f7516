-- The terms of an expression that must hold together.
use Rattle.std.specs.Prelude.{◌≡◌, ℕ, Bool, true, false, not, List, [], ◌∷◌, ◌++◌, All, Ok}
use Rattle.gt_explore_verdict.specs.Expressions.{Asked, condition_of_words, is_excluded}
use Rattle.gt_explore_verdict.specs.Formulas.{Op}
use Rattle.gt_explore_verdict.specs.Grammar.{Phrase, Rank, and_phrase, bracket_phrase, disjunction, not_phrase}
use Rattle.gt_explore_verdict.specs.Grammar.{one_conjunction, one_operand, or_phrase, phrase_holds, phrase_pieces, pieces_in}
use Rattle.gt_explore_verdict.specs.Grammar.{term_phrase}
use Rattle.gt_explore_verdict.specs.Reading.{operations_in}
use Rattle.gt_explore_verdict.specs.Satisfying.{is_met_in}

-- the terms of a phrase that must hold if it does, or, if it is denied, if it does not: those that only `&` joins, also
-- in brackets without a `!` before them
abbrev pub joined_terms : {rank : Rank} → Bool → Phrase rank → List Asked
joined_terms false (term_phrase word words) = condition_of_words word words ∷ []
joined_terms true (term_phrase word words) = []
joined_terms denied (not_phrase p) = joined_terms (not denied) p
joined_terms false (bracket_phrase p) = joined_terms false p
joined_terms true (bracket_phrase p) = []
joined_terms denied (one_operand p) = joined_terms denied p
joined_terms false (and_phrase p q) = joined_terms false p ++ joined_terms false q
joined_terms true (and_phrase p q) = []
joined_terms denied (one_conjunction p) = joined_terms denied p
joined_terms denied (or_phrase p q) = []

-- each of them is met if the phrase holds
abbrev pub HasJoinedTermsMet : Phrase disjunction → Type 0
HasJoinedTermsMet phrase =
    (lines : List (List ℕ)) → phrase_holds lines phrase ≡ true
    → All (λ asked. is_met_in asked lines ≡ true) (joined_terms false phrase)

-- No term of a phrase without a `!` before it is excluded by an earlier one that must hold with it: by one of these,
-- which are outside of the phrase, or by one of its own. What is in a bracket with a `!` before it holds without them.
abbrev pub ExcludesNone : {rank : Rank} → Bool → List Asked → Phrase rank → Type 0
ExcludesNone false outside (term_phrase word words) = is_excluded outside (condition_of_words word words) ≡ false
ExcludesNone true outside (term_phrase word words) = Unit {0}
ExcludesNone denied outside (not_phrase p) = ExcludesNone (not denied) outside p
ExcludesNone false outside (bracket_phrase p) = ExcludesNone false outside p
ExcludesNone true outside (bracket_phrase p) = ExcludesNone false [] p
ExcludesNone denied outside (one_operand p) = ExcludesNone denied outside p
ExcludesNone denied outside (and_phrase p q) =
    ExcludesNone denied outside p × ExcludesNone denied (outside ++ joined_terms denied p) q
ExcludesNone denied outside (one_conjunction p) = ExcludesNone denied outside p
ExcludesNone denied outside (or_phrase p q) = ExcludesNone denied outside p × ExcludesNone denied outside q

-- an expression that is written as a phrase is read only if none of its terms is excluded
abbrev pub IsReadWithoutExcluded : Phrase disjunction → List ℕ → Type 0
IsReadWithoutExcluded phrase expression =
    pieces_in expression ≡ phrase_pieces phrase → (ops : List Op) → operations_in expression ≡ Ok ops
    → ExcludesNone false [] phrase
