-- A search that may stop at its limit.
use Rattle.std.proofs.Common.{Result, Ok, Err, Option, Some, None, IfOk, IfNone}

-- what holds if nothing is left
pub on_none : {A E P Q : Type 0} (r : Result (Option A) E) → (P → Q) → IfOk r (λ left. IfNone left P) → IfOk r (λ left. IfNone left Q)
on_none (Ok None) so holds = so holds
on_none (Ok (Some left)) so holds = holds
on_none (Err e) so holds = holds
