-- Texts of files.
use Rattle.std.proofs.Common.{◌≡◌, ℕ, List, Option, None, Some, IfOk, IfSome, Result, Ok, Err, subst}

-- what was read of a text whose bytes are known are these bytes
pub known_read : (known left : Option (List ℕ)) (bytes : List ℕ) → IfSome known (λ all. left ≡ Some all) → IfSome left (λ all. bytes ≡ all) → IfSome known (λ all. bytes ≡ all)
known_read None left bytes opened read = tt
known_read (Some all) left bytes opened read =
    let same : IfSome (Some all) (λ b. bytes ≡ b) = subst (λ (o : Option (List ℕ)). IfSome o (λ b. bytes ≡ b)) opened read in
    same

pub read_so : {B E : Type 0} (items : B → List ℕ) (known left : Option (List ℕ)) (r : Result B E) → IfSome known (λ all. left ≡ Some all) → IfOk r (λ b. IfSome left (λ all. items b ≡ all)) → IfOk r (λ b. IfSome known (λ all. items b ≡ all))
read_so items known left (Ok b) opened read = known_read known left (items b) opened read
read_so items known left (Err e) opened read = tt
