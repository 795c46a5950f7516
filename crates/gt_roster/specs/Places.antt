-- The positions of the domains.
use Rattle.std.specs.Prelude.{◌≡◌, ℕ, List, length, slice_index_or, ◌==◌}
use Rattle.std.specs.List.{position_or_len}
use Rattle.gt_types.specs.declared.DomId.{DomId}

-- the table has the position of each number among these, and their count for every other number
abbrev pub HasPlaces : List DomId → List ℕ → Type 0
HasPlaces ids table = (d : ℕ) → slice_index_or table d (length ids) ≡ position_or_len (λ x. x.0 == d) ids
