-- What is written for one request: by the terms of order of its expression, or as it is.
use Rattle.std.proofs.Common.{◌≡◌, ℕ, List, Option, None, Some, Result, inr, subst, sym, take}
use Rattle.gt_text.specs.Texts.{IsBadAt}
use Rattle.gt_text.specs.declared.streams.TheConstants.{READ_LIMIT}
use Rattle.gt_explore_answers.specs.declared.asking.ExploreOptions.{ExploreOptions}
use Rattle.gt_explore_claims.specs.Exploring.{NamedExplored}
use Rattle.gt_explore_faults.specs.declared.claims.ClaimsFault.{ClaimsFault}
use Rattle.gt_explore_precedence.specs.declared.exploring.PrecedenceOptions.{PrecedenceOptions}
use Rattle.gt_explore_verdict.specs.declared.judging.Verdict.{Verdict}
use Rattle.gt_program.specs.Obeying.{OneBy, OneExplored, precedence_asked}

-- the expression has no term of order
pub one_plain : (asked : ExploreOptions) (input : List ℕ) (old new : Option (List ℕ)) (r : Result Verdict ClaimsFault) → precedence_asked asked ≡ None → NamedExplored asked input old new r → OneExplored asked input old new r
one_plain asked input old new r none wrote = subst (λ (claim : Option PrecedenceOptions). OneBy claim asked input old new r) (sym none) wrote

-- the bytes are no text
pub one_unread : (asked : ExploreOptions) (claim : PrecedenceOptions) (input text : List ℕ) (line : ℕ) (old new : Option (List ℕ)) (r : Result Verdict ClaimsFault) → precedence_asked asked ≡ Some claim → text ≡ take READ_LIMIT input
    → IsBadAt text line → NamedExplored asked input old new r → OneExplored asked input old new r
one_unread asked claim input text line old new r some read bad wrote =
    subst (λ (claim : Option PrecedenceOptions). OneBy claim asked input old new r) (sym some) (inr ((line, subst (λ (t : List ℕ). IsBadAt t line) read bad), wrote))
