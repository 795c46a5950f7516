-- The types of each attribute.
use Rattle.std.specs.Prelude.{ℕ, Bool}
use Rattle.std.specs.List.{slice_index_or}
use Rattle.gt_policy.specs.declared.types.TypeSet.{TypeSet}
use Rattle.gt_policy.specs.declared.rules.Members.{Members}
use Rattle.gt_policy.specs.TypeSets.{holds}

-- the empty set
abbrev pub no_types : TypeSet
no_types = record { low = 0; high = 0 }

-- type n has the attribute a
abbrev pub has_attribute : Members → ℕ → ℕ → Bool
has_attribute members a n = holds (slice_index_or members.sets a no_types) n
