use Rattle.std.proofs.Common.{◌≡◌, ◌≤◌, ◌==◌, length, false}
use Rattle.std.specs.Prelude.{not}
use Rattle.gt_policy.specs.Grammar.{set_in_braces, after}
use Rattle.gt_neverallow.proofs.parser.set_in_braces.Given as goal

abbrev pub invariant-loop-items : goal.invariant-loop-items
invariant-loop-items l = (after l.items (set_in_braces l.is_target (not (length l.items == 0)) l.lexer) ≡ set_in_braces l.is_target false l.initial.lexer) × (length l.lexer ≤ length l.fn.lexer)

abbrev pub decreases-loop-items : goal.decreases-loop-items
decreases-loop-items l = length l.lexer
