use Rattle.std.proofs.Common.{◌≡◌, ◌≤◌, ◌==◌, length, false}
use Rattle.std.specs.Prelude.{not}
use Rattle.gt_policy.specs.Grammar.{perms_in_braces, after}
use Rattle.gt_policy.proofs.parser.Parser.perms_in_braces.Given as goal

abbrev pub invariant-perms : goal.invariant-perms
invariant-perms l = (after l.perms (perms_in_braces l.alone (not (length l.perms == 0)) l.self) ≡ perms_in_braces l.alone false l.initial.self) × (length l.self ≤ length l.fn.self)

abbrev pub decreases-perms : goal.decreases-perms
decreases-perms l = length l.self
