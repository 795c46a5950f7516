use Rattle.std.proofs.Common.{◌≡◌, ◌+◌, drop}
use Rattle.std.specs.List.{prefix_len}
use Rattle.gt_policy_text.specs.Lexing.{is_name_byte}
use Rattle.gt_policy_text.proofs.lexer.name_len.Given as goal

abbrev pub invariant-loop-i : goal.invariant-loop-i
invariant-loop-i l = prefix_len is_name_byte l.text ≡ l.i + prefix_len is_name_byte (drop l.i l.text)
