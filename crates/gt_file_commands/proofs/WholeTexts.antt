-- Texts that were read whole.
use Rattle.std.proofs.Common.{◌≡◌, ℕ, ◌≤◌, List, length, take, Option, None, Some, IfOk, IfSome, Result, Ok, Err, subst, sym}
use Rattle.gt_check_command.proofs.Advised.{whole_read}

-- at most 1,048,576 bytes that are the first 1,048,577 of a text are the text
pub whole_text : (known : Option (List ℕ)) (bytes : List ℕ) → IfSome known (λ all. bytes ≡ take 1048577 all) → length bytes ≤ 1048576 → IfSome known (λ all. bytes ≡ all)
whole_text None bytes read short = tt
whole_text (Some all) bytes read short = whole_read all bytes read short

-- a text that was read up to the limit, and is not too long
pub whole_so : {B E : Type 0} (items : B → List ℕ) (known : Option (List ℕ)) (bytes : B) (r : Result B E) → IfSome known (λ all. items bytes ≡ take 1048577 all) → IfOk r (λ b. (b ≡ bytes) × (length (items b) ≤ 1048576))
    → IfOk r (λ b. IfSome known (λ all. items b ≡ all))
whole_so {B = B} items known bytes (Ok b) read (same, short) = whole_text known (items b) (subst (λ (x : B). IfSome known (λ all. items x ≡ take 1048577 all)) (sym same) read) short
whole_so items known bytes (Err e) read is = tt
