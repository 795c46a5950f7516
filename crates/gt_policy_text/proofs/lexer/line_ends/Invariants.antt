use Rattle.std.proofs.Common.{◌≡◌, ◌≤◌, ◌+◌, ◌==◌, drop}
use Rattle.std.specs.Prelude.{count_by}
use Rattle.gt_policy_text.proofs.lexer.line_ends.Given as goal

abbrev pub invariant-loop-byte : goal.invariant-loop-byte
invariant-loop-byte l = (count_by (λ b. b == 10) l.text ≡ l.ends + count_by (λ b. b == 10) (drop l.byte-index l.text)) × (l.ends ≤ l.byte-index)
