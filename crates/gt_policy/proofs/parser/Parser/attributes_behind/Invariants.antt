use Rattle.std.proofs.Common.{◌≡◌, ◌≤◌, length, false}
use Rattle.gt_policy.specs.Grammar.{attributes, after}
use Rattle.gt_policy.proofs.parser.Parser.attributes_behind.Given as goal

abbrev pub invariant-names : goal.invariant-names
invariant-names l = (after l.names (attributes l.in_type false l.self) ≡ after l.fn.names (attributes l.in_type false l.fn.self)) × (length l.self ≤ length l.fn.self)

abbrev pub decreases-names : goal.decreases-names
decreases-names l = length l.self
