-- Copies of states, and domains at the start.
use Rattle.std.specs.Prelude.{◌≡◌, List, [], ◌∷◌, None}
use Rattle.gt_explore_moves.specs.Mappings.{labels_of, mapping_pins}
use Rattle.gt_explore_moves.specs.declared.actor.Actor.{Actor}
use Rattle.gt_explore_moves.specs.declared.scene.SearchState.{SearchState}
use Rattle.gt_explore_state.specs.Copies.{SamePages, SameTables}

-- the domain is before the first task of its list, with no mapping and no call open
pub record IsFirstActor (a : Actor) : Type 0 where
  pub next : a.next ≡ 0
  pub mappings : a.mappings.items ≡ []
  pub open_call : a.«open» ≡ None

-- the other domain is at the same task, with the same mappings under the same labels, and the same call open
pub record SameActor (one other : Actor) : Type 0 where
  pub next : other.next ≡ one.next
  pub pins : mapping_pins other.mappings.items ≡ mapping_pins one.mappings.items
  pub labels : labels_of other.mappings.items ≡ labels_of one.mappings.items
  pub open_call : other.«open» ≡ one.«open»

-- each of the domains is the same as the one at its position
abbrev pub SameActors : List Actor → List Actor → Type 0
SameActors [] [] = Unit {0}
SameActors (a ∷ more) (b ∷ rest) = SameActor a b × SameActors more rest
SameActors [] (b ∷ rest) = ⊥
SameActors (a ∷ more) [] = ⊥

-- the other state has the same domains, tables, pages and flags
pub record SameWorld (one other : SearchState) : Type 0 where
  pub actors : SameActors one.actors.items other.actors.items
  pub tables : SameTables one.ground.tables.items other.ground.tables.items
  pub pages : SamePages one.ground.pages.items other.ground.pages.items
  pub told : other.told.items ≡ one.told.items
