use Rattle.std.proofs.Common.{◌≡◌, drop}
use Rattle.std.specs.List.{list_any}
use Rattle.gt_policy_statements.specs.Granting.{elements_hold}
use Rattle.gt_policy_check.proofs.useless.holds_some.Given as goal

abbrev pub invariant-members : goal.invariant-members
invariant-members l = list_any (λ m. elements_hold m.names l.items) l.members ≡ list_any (λ m. elements_hold m.names l.items) (drop l.member-index l.members)
