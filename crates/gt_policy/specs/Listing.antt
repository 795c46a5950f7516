-- The order in which the types of a policy are listed.
use Rattle.std.specs.Prelude.{ℕ, List, [], length, map}
use Rattle.std.specs.List.{slice_index_or, range_with_len}
use Rattle.std.specs.List.Sorted.{IsPermutation, IsSortedBy}
use Rattle.std.specs.Ordering.{is_lt, nat_cmp}
use Rattle.std.specs.Cmp.Lexicographic.{slice_cmp}
use Rattle.gt_types.specs.declared.TypeId.{TypeId}

-- the name of type n
abbrev pub type_name_of : List (List ℕ) → ℕ → List ℕ
type_name_of types n = slice_index_or types n []

-- Each type is in the list once, and the list is sorted by the bytes of the names.
pub record AreByName (types : List (List ℕ)) (ids : List TypeId) : Type 0 where
  pub all : IsPermutation (range_with_len 0 (length types)) (map (λ id. id.0) ids)
  pub ordered : IsSortedBy (λ a b. is_lt (slice_cmp nat_cmp (type_name_of types a.0) (type_name_of types b.0))) ids
