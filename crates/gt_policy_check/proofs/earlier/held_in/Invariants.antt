use Rattle.std.proofs.Common.{◌≡◌, ℕ, ◌<◌, true, length}
use Rattle.std.specs.Prelude.{All, Contains}
use Rattle.gt_policy_check.specs.Earlier.{member_at}
use Rattle.gt_policy_statements.specs.Granting.{elements_hold}
use Rattle.gt_policy_check.proofs.earlier.held_in.Given as goal

abbrev pub invariant-members : goal.invariant-members
invariant-members l = record {
  each : All (λ s. (s < length l.members) × (elements_hold (member_at l.members s).names l.items ≡ true)) l.held.items;
  every : (s : ℕ) → s < l.place → elements_hold (member_at l.members s).names l.items ≡ true → Contains l.held.items s;
}
