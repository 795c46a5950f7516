use Rattle.std.proofs.Common.{◌≡◌, drop}
use Rattle.gt_policy.specs.Allowing.{names_itself}
use Rattle.gt_policy.proofs.rules.names_itself.Given as goal

abbrev pub invariant-loop-element : goal.invariant-loop-element
invariant-loop-element l = names_itself l.set ≡ names_itself (drop l.element-index l.set)
