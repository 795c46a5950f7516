use Rattle.std.proofs.Common.{◌≡◌, ℕ, length, take, slice_index_or}
use Rattle.gt_policy.specs.Allowing.{was_given}
use Rattle.gt_policy.specs.Members.{no_types}
use Rattle.gt_policy.specs.TypeSets.{holds}
use Rattle.gt_policy.proofs.rules.Members.new.Given as goal

abbrev pub invariant-loop-g : goal.invariant-loop-g
invariant-loop-g l = (length l.sets ≡ 256) × ((a n : ℕ) → holds (slice_index_or l.sets a no_types) n ≡ was_given (take l.g-index l.given) a n)
