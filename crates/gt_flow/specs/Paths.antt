-- Paths of accesses, and what a search of them has.
use Rattle.std.specs.Prelude.{◌≡◌, ◌⊎◌, ◌<◌, ◌≤◌, ◌+◌, ℕ, Bool, true, List, [], ◌∷◌, length, Option, Some, None}
use Rattle.std.specs.List.{slice_get}
use Rattle.gt_types.specs.declared.TypeId.{TypeId}
use Rattle.gt_flow.specs.Flow.{FlowPolicy}
use Rattle.gt_flow.specs.Accesses.{MayFlowPast, is_among}
use Rattle.gt_flow.specs.declared.searching.Reach.{Reach}

-- accesses one after another may bring bytes from type x, through the types of the list, to type y, its last
abbrev pub IsPathPast : FlowPolicy → (TypeId → Bool) → TypeId → List TypeId → TypeId → Type 0
IsPathPast may trusted x [] y = x ≡ y
IsPathPast may trusted x (z ∷ zs) y = MayFlowPast may trusted x z × IsPathPast may trusted z zs y

-- the list is a path, and none is shorter
pub record IsShortestPath (may : FlowPolicy) (trusted : TypeId → Bool) (x y : TypeId) (zs : List TypeId) : Type 0
  where
    pub path : IsPathPast may trusted x zs y
    pub least : (others : List TypeId) → IsPathPast may trusted x others y → length zs ≤ length others

-- a path that is asked for: a shortest one, or none if there is none
abbrev pub HasPath : FlowPolicy → (TypeId → Bool) → TypeId → TypeId → Option (List TypeId) → Type 0
HasPath may trusted x y (Some path) = IsShortestPath may trusted x y path
HasPath may trusted x y None = (zs : List TypeId) → IsPathPast may trusted x zs y → ⊥

-- the list has all types but this one
abbrev pub AllOthers : ℕ → TypeId → List TypeId → Type 0
AllOthers count source left = (y : TypeId) → y.0 < count → (y ≡ source) ⊎ (is_among left y ≡ true)

-- a type that one access from x reaches, which is at this place
abbrev pub hop_from : ℕ → Reach → TypeId → Reach
hop_from at x y = record { id = y; from = at; distance = x.distance + 1 }

-- each type but the first was reached from an earlier one
abbrev pub AreBackward : List Reach → Type 0
AreBackward found = (i : ℕ) (r : Reach) → slice_get found (i + 1) ≡ Some r → r.from ≤ i

-- a type was reached by one access from the type at the place that it names
pub record IsHop (may : FlowPolicy) (trusted : TypeId → Bool) (found : List Reach) (r : Reach) : Type 0 where
  pub before : Reach
  pub place : slice_get found r.from ≡ Some before
  pub distance : r.distance ≡ before.distance + 1
  pub flow : MayFlowPast may trusted before.id r.id

-- the list has the type, at most this far away
pub record IsFoundWithin (found : List Reach) (y : TypeId) (most : ℕ) : Type 0 where
  pub reach : Reach
  pub place : ℕ
  pub listed : slice_get found place ≡ Some reach
  pub id : reach.id ≡ y
  pub near : reach.distance ≤ most

-- The list is that of the types that bytes of the source reach. The first is the source. Each other one is reached by
-- an access from an earlier one. They are in the order of their distances. And each access from one of them leads to
-- one of them, at most one step further.
pub record IsSearched (may : FlowPolicy) (trusted : TypeId → Bool) (source : TypeId) (found : List Reach) : Type 0
  where
    pub first : slice_get found 0 ≡ Some (record { id = source; from = 0; distance = 0 })
    pub backward : AreBackward found
    pub hops : (i : ℕ) (r : Reach) → slice_get found (i + 1) ≡ Some r → IsHop may trusted found r
    pub ordered : (i j : ℕ) (r s : Reach) → i ≤ j → slice_get found i ≡ Some r → slice_get found j ≡ Some s
        → r.distance ≤ s.distance
    pub closed : (i : ℕ) (r : Reach) (y : TypeId) → slice_get found i ≡ Some r → MayFlowPast may trusted r.id y
        → IsFoundWithin found y (r.distance + 1)
