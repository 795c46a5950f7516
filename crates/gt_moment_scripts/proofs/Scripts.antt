-- Scripts after a comment.
use Rattle.std.proofs.Common.{◌≡◌, ◌∙◌, ◌++◌, ℕ, List, Err, IfOk, Ok, OnOk, Result, ap, append_assoc, inr, Vec, Global}
use Rattle.gt_script.specs.Contents.{Contents}
use Rattle.gt_state_claims.specs.Claims.{ClaimAsked}
use Rattle.gt_moment_scripts.specs.Showing.{IsWithoutScript, ShowsAfterComment}

-- three texts one after the other
pub three_in_turn : {E : Type 0} (r : Result (Unit {0}) E) (out a b c first second third : List ℕ) → first ≡ out ++ a → second ≡ first ++ b → OnOk r (third ≡ second ++ c)
    → OnOk r (third ≡ out ++ (a ++ (b ++ c)))
three_in_turn (Err fault) out a b c first second third f s t = tt
three_in_turn (Ok done) out a b c first second third f s t =
    t ∙ ap (λ (l : List ℕ). l ++ c) (s ∙ ap (λ (l : List ℕ). l ++ b) f) ∙ append_assoc (out ++ a) b c ∙ append_assoc out a (b ++ c)

-- a line was written in place of a script
pub after_comment : {E : Type 0} (c : Contents) (claim : ClaimAsked) (comment : List ℕ) (r : Result (Vec ℕ Global) E)
    → IfOk r (λ text. (lines : List ℕ) × (text.items ≡ comment ++ lines) × IsWithoutScript c lines) → IfOk r (λ text. ShowsAfterComment c claim comment text.items)
after_comment c claim comment (Err fault) wrote = tt
after_comment c claim comment (Ok text) (lines, is, without) = (lines, is, inr without)
