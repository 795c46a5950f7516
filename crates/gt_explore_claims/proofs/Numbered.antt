-- The names of an expression that have a fault, and texts one after the other.
use Rattle.std.proofs.Common.{◌≡◌, ◌∙◌, ◌++◌, ◌<◌, ℕ, List, OnOk, Result, Ok, Err, ap, append_assoc, get_or, inr, length, map, option_map}
use Rattle.std.proofs.lemmas.Option.{slice_get-get_or, slice_get-map}
use Rattle.gt_explore_faults.specs.declared.claims.ClaimsFault.{ClaimsFault}
use Rattle.gt_explore_claims.specs.Deciding.{AreNumberingFailures, IsNumberingFailure}
use Rattle.gt_explore_claims.specs.Stating.{stated}
use Rattle.gt_explore_claims.specs.declared.stated.StatedClaim.{StatedClaim}

-- the fault of one of the claims
pub failing : (lines : List (List ℕ)) (claims : List StatedClaim) (k : ℕ) (x : StatedClaim) (fault : ClaimsFault) → k < length claims
    → IsNumberingFailure lines (get_or claims k x).expression.now fault → AreNumberingFailures lines (map stated claims) fault
failing lines claims k x fault lt is =
    inr (k, stated (get_or claims k x), slice_get-map stated claims k ∙ ap (option_map stated) (slice_get-get_or claims k x lt), is)

-- three texts one after the other
pub three_joined : {E : Type 0} (r : Result (Unit {0}) E) (out a w v d first second third : List ℕ) → first ≡ out ++ a → w ≡ v → second ≡ first ++ w → OnOk r (third ≡ second ++ d)
    → OnOk r (third ≡ out ++ (a ++ (v ++ d)))
three_joined (Err fault) out a w v d first second third f is s t = tt
three_joined (Ok done) out a w v d first second third f is s t =
    t ∙ ap (λ (l : List ℕ). l ++ d) (s ∙ ap (λ (l : List ℕ). l ++ w) f ∙ ap (λ (l : List ℕ). (out ++ a) ++ l) is) ∙ simp append_assoc
