use Rattle.std.proofs.Common.{◌≡◌, ℕ, take}
use Rattle.std.specs.List.{list_any}
use Rattle.gt_policy.specs.Allowing.{is_with, is_without}
use Rattle.gt_policy.specs.Members.{has_attribute}
use Rattle.gt_policy.specs.TypeSets.{holds}
use Rattle.gt_policy.proofs.rules.Members.types_of.Given as goal

abbrev pub invariant-loop-element : goal.invariant-loop-element
invariant-loop-element l = ((n : ℕ) → holds l.with n ≡ list_any (λ e. is_with (has_attribute l.self) e n) (take l.element-index l.set)) × ((n : ℕ) → holds l.without n ≡ list_any (λ e. is_without (has_attribute l.self) e n) (take l.element-index l.set))
