-- Races as texts.
use Rattle.std.specs.Ordering.{nat_cmp, ordering_then}
use Rattle.std.specs.Prelude.{◌++◌, ℕ, List, nat_le, if◌then◌else◌}
use Rattle.std.specs.declared.cmp.Ordering.{Ordering}
use Rattle.std.specs.Int.{to_be_bytes, w64}
use Rattle.gt_explore_races.specs.declared.racing.Race.{Race}

-- the race of the calls of these lines: the smaller line is first
abbrev pub race_of : ℕ → ℕ → Race
race_of k l = if nat_le k l then record { first = k; second = l } else record { first = l; second = k }

-- races by their first lines, and then by their second ones
abbrev pub race_cmp : Race → Race → Ordering
race_cmp r t = ordering_then (nat_cmp r.first t.first) (nat_cmp r.second t.second)

-- the text of a run that ends at a race
abbrev pub race_text : Race → List ℕ
race_text race = to_be_bytes w64 race.first ++ to_be_bytes w64 race.second
