-- The joined terms of a phrase that holds are met.
use Rattle.std.proofs.Common.{◌≡◌, Bool, true, false, ◌&&◌, not, ℕ, List, [], All, refl}
use Rattle.std.proofs.lemmas.List.Elements.{All-append, All-cons, All-nil}
use Rattle.gt_explore_verdict.specs.Expressions.{Asked, condition_of_words}
use Rattle.gt_explore_verdict.specs.Grammar.{Phrase, Rank, and_phrase, bracket_phrase, disjunction, not_phrase}
use Rattle.gt_explore_verdict.specs.Grammar.{one_conjunction, one_operand, or_phrase, phrase_holds, term_phrase}
use Rattle.gt_explore_verdict.specs.Joining.{HasJoinedTermsMet, joined_terms}
use Rattle.gt_explore_verdict.specs.Satisfying.{is_met_in}

both : (a b : Bool) → (a && b) ≡ true → (a ≡ true) × (b ≡ true)
both true b is = (refl, is)
both false b is = cc

contrary : (a b : Bool) → not a ≡ not b → a ≡ not (not b)
contrary true true is = refl
contrary true false is = cc
contrary false true is = cc
contrary false false is = refl

abbrev Met : List (List ℕ) → Asked → Type 0
Met lines asked = is_met_in asked lines ≡ true

-- the joined terms of a phrase that holds are met, and those of a denied one that does not
met : {rank : Rank} (denied : Bool) (lines : List (List ℕ)) (p : Phrase rank) → phrase_holds lines p ≡ not denied
    → All (Met lines) (joined_terms denied p)
met false lines (term_phrase word words) is =
    All-cons (Met lines) (condition_of_words word words) [] is (All-nil (Met lines))
met true lines (term_phrase word words) is = All-nil (Met lines)
met denied lines (not_phrase p) is = met (not denied) lines p (contrary (phrase_holds lines p) denied is)
met false lines (bracket_phrase p) is = met false lines p is
met true lines (bracket_phrase p) is = All-nil (Met lines)
met denied lines (one_operand p) is = met denied lines p is
met false lines (and_phrase p q) is =
    let b = both (phrase_holds lines p) (phrase_holds lines q) is in
    All-append (Met lines) (joined_terms false p) (joined_terms false q) (met false lines p b.0) (met false lines q b.1)
met true lines (and_phrase p q) is = All-nil (Met lines)
met denied lines (one_conjunction p) is = met denied lines p is
met denied lines (or_phrase p q) is = All-nil (Met lines)

pub joined_terms_met : (phrase : Phrase disjunction) → HasJoinedTermsMet phrase
joined_terms_met phrase lines is = met false lines phrase is
