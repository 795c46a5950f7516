use Rattle.std.proofs.Common.{◌≡◌, ◌≤◌, ◌==◌, length, false}
use Rattle.std.specs.Prelude.{not}
use Rattle.gt_policy.specs.Grammar.{set_in_braces, after}
use Rattle.gt_policy.proofs.parser.Parser.set_in_braces.Given as goal

abbrev pub invariant-items : goal.invariant-items
invariant-items l = (after l.items (set_in_braces l.is_target (not (length l.items == 0)) l.self) ≡ set_in_braces l.is_target false l.initial.self) × (length l.self ≤ length l.fn.self)

abbrev pub decreases-items : goal.decreases-items
decreases-items l = length l.self
