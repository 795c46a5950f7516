use Rattle.std.proofs.Common.{◌≡◌, ℕ, ◌+◌, ◌<◌, ◌^◌, length}
use Rattle.gt_policy_text.specs.Lexing.{lexemes, Between}
use Rattle.gt_policy_text.proofs.lexer.skip.Given as goal

abbrev pub invariant-loop-byte : goal.invariant-loop-byte
invariant-loop-byte l = ((end : ℕ) → lexemes Between end l.fn.first l.fn.text ≡ lexemes Between end l.line l.rest) × (l.line + length l.rest < 2 ^ 32)

abbrev pub decreases-loop-byte : goal.decreases-loop-byte
decreases-loop-byte l = length l.rest
