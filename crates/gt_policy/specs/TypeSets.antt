-- Membership of a set of types.
use Rattle.std.specs.Prelude.{ℕ, ◌==◌, ◌-◌, ◌&&◌, Bool, nat_lt, if◌then◌else◌}
use Rattle.std.specs.Int.{bit_at}
use Rattle.gt_policy.specs.declared.types.TypeSet.{TypeSet}

-- bit n of the number is 1
abbrev pub has_bit : ℕ → ℕ → Bool
has_bit bits n = bit_at bits n == 1

-- Type n is in the set if its bit is 1; `low` has the types below 128, and `high` those from 128 to 255.
abbrev pub holds : TypeSet → ℕ → Bool
holds set n = if nat_lt n 128 then has_bit set.low n else (nat_lt n 256 && has_bit set.high (n - 128))
