use Rattle.std.proofs.Common.{◌≡◌, ◌≤◌, ◌==◌, length, false}
use Rattle.std.specs.Prelude.{not}
use Rattle.gt_policy.specs.Grammar.{classes_in_braces, after}
use Rattle.gt_policy.proofs.parser.Parser.classes_in_braces.Given as goal

abbrev pub invariant-classes : goal.invariant-classes
invariant-classes l = (after l.classes (classes_in_braces (not (length l.classes == 0)) l.self) ≡ classes_in_braces false l.initial.self) × (length l.self ≤ length l.fn.self)

abbrev pub decreases-classes : goal.decreases-classes
decreases-classes l = length l.self
