-- What a search says of paths, and of noninterference.
use Rattle.std.specs.Prelude.{◌≡◌, ◌==◌, ◌&&◌, not, ℕ, Bool, List, length, Some}
use Rattle.std.specs.List.{list_any, slice_get}
use Rattle.gt_types.specs.declared.TypeId.{TypeId}
use Rattle.gt_flow.specs.Flow.{FlowPolicy}
use Rattle.gt_flow.specs.Trusted.{IsClosedButTrusted}
use Rattle.gt_flow.specs.Paths.{IsFoundWithin, IsPathPast, IsSearched}
use Rattle.gt_flow.specs.declared.searching.Reach.{Reach}

-- each path leads to a type that the search has, at most as far away as the path is long
abbrev pub EachPathLeadsWithin : FlowPolicy → (TypeId → Bool) → TypeId → List Reach → Type 0
EachPathLeadsWithin may trusted source found =
    (y : TypeId) (zs : List TypeId) → IsPathPast may trusted source zs y → IsFoundWithin found y (length zs)

-- a path leads to each type that the search has, as long as the type is far away
abbrev pub EachIsReached : FlowPolicy → (TypeId → Bool) → TypeId → List Reach → Type 0
EachIsReached may trusted source found =
    (i : ℕ) (r : Reach) → slice_get found i ≡ Some r
    → (zs : List TypeId) × IsPathPast may trusted source zs r.id × (length zs ≡ r.distance)

abbrev pub EveryPathIsFound : Type 0
EveryPathIsFound =
    (may : FlowPolicy) (trusted : TypeId → Bool) (source : TypeId) (found : List Reach)
    → IsSearched may trusted source found
    → EachPathLeadsWithin may trusted source found × EachIsReached may trusted source found

-- the search has the type
abbrev pub has_reached : List Reach → TypeId → Bool
has_reached found y = list_any (λ r. r.id.0 == y.0) found

abbrev pub WhatIsReachedIsClosed : Type 0
WhatIsReachedIsClosed =
    (may : FlowPolicy) (trusted : TypeId → Bool) (source : TypeId) (found : List Reach)
    → IsSearched may trusted source found
    → IsClosedButTrusted may (has_reached found) (λ x. has_reached found x && not (trusted x))
