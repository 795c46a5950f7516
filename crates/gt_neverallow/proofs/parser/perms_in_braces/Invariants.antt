use Rattle.std.proofs.Common.{◌≡◌, ◌≤◌, ◌==◌, length, false}
use Rattle.std.specs.Prelude.{not}
use Rattle.gt_policy.specs.Grammar.{perms_in_braces, after}
use Rattle.gt_neverallow.proofs.parser.perms_in_braces.Given as goal

abbrev pub invariant-loop-perms : goal.invariant-loop-perms
invariant-loop-perms l = (after l.perms (perms_in_braces l.alone (not (length l.perms == 0)) l.lexer) ≡ perms_in_braces l.alone false l.initial.lexer) × (length l.lexer ≤ length l.fn.lexer)

abbrev pub decreases-loop-perms : goal.decreases-loop-perms
decreases-loop-perms l = length l.lexer
