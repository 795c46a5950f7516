use Rattle.std.proofs.Common.{◌≡◌, ℕ, drop}
use Rattle.gt_script_lines.specs.Numbers.{number_of, digits_after}
use Rattle.gt_state_claims.proofs.words.decimal.Given as goal

abbrev pub invariant-loop-byte : goal.invariant-loop-byte
invariant-loop-byte l = (n : ℕ) × (l.value ≡ number_of n) × (digits_after n (drop l.byte-index l.word) ≡ digits_after 0 l.word)
