use Rattle.std.proofs.Common.{◌≡◌, ◌≤◌, ◌==◌, length, false}
use Rattle.std.specs.Prelude.{not}
use Rattle.gt_policy.specs.Grammar.{classes_in_braces, after}
use Rattle.gt_neverallow.proofs.parser.classes_in_braces.Given as goal

abbrev pub invariant-loop-classes : goal.invariant-loop-classes
invariant-loop-classes l = (after l.classes (classes_in_braces (not (length l.classes == 0)) l.lexer) ≡ classes_in_braces false l.initial.lexer) × (length l.lexer ≤ length l.fn.lexer)

abbrev pub decreases-loop-classes : goal.decreases-loop-classes
decreases-loop-classes l = length l.lexer
