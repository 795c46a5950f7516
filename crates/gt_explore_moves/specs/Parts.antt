-- The parts of states.
use Rattle.std.specs.Prelude.{◌≡◌, ◌++◌, List, [], ◌∷◌, Bool, map}
use mathlib.Core.Path.{◌∙◌, sym}
use Rattle.gt_explore_search.specs.Parts.{Splitting}
use Rattle.gt_explore_state.specs.Copies.{SamePage}
use Rattle.gt_explore_state.specs.Tables.{SameTable}
use Rattle.gt_explore_state.specs.declared.pages.SparsePage.{SparsePage}
use Rattle.gt_explore_state.specs.declared.table.SparseTable.{SparseTable}
use Rattle.gt_explore_moves.specs.Copies.{SameActor}
use Rattle.gt_explore_moves.specs.declared.actor.Actor.{Actor}
use Rattle.gt_explore_moves.specs.declared.parts.PartInState.{PartInState}
use Rattle.gt_explore_moves.specs.declared.parts.PartInState.TheVariants as parts_in_state
use Rattle.gt_explore_moves.specs.declared.parts.StatePart.{StatePart}
use Rattle.gt_explore_moves.specs.declared.parts.StatePart.TheVariants.{Domain, Flags, Page, Table}
use Rattle.gt_explore_moves.specs.declared.scene.SearchState.{SearchState}

-- the flags, domains, tables and pages of a state
pub record PartLists : Type 0 where
  pub flags : List Bool
  pub actors : List Actor
  pub tables : List SparseTable
  pub pages : List SparsePage

abbrev pub lists_in : SearchState → PartLists
lists_in w = record {
  flags = w.told.items;
  actors = w.actors.items;
  tables = w.ground.tables.items;
  pages = w.ground.pages.items;
}

-- none of these
abbrev pub no_parts : PartLists
no_parts = record { flags = []; actors = []; tables = []; pages = [] }

-- with one part more: the flags, or a part at the end of those of its kind
abbrev pub with_part : PartLists → StatePart → PartLists
with_part l (Flags told) = record l { flags = told }
with_part l (Domain a) = record l { actors = l.actors ++ a ∷ [] }
with_part l (Table t) = record l { tables = l.tables ++ t ∷ [] }
with_part l (Page p) = record l { pages = l.pages ++ p ∷ [] }

-- with these parts more
abbrev pub with_parts : PartLists → List StatePart → PartLists
with_parts l [] = l
with_parts l (p ∷ ps) = with_parts (with_part l p) ps

-- the other part is of the same kind, and has the same content
abbrev pub SamePart : StatePart → StatePart → Type 0
SamePart (Flags told) (Flags t) = t ≡ told
SamePart (Domain a) (Domain b) = SameActor a b
SamePart (Table t) (Table u) = SameTable t u
SamePart (Page p) (Page q) = SamePage p q
SamePart p q = ⊥

same_actor_on : (a b c : Actor) → SameActor a b → SameActor b c → SameActor a c
same_actor_on a b c f g = record {
  next = g.next ∙ f.next;
  pins = g.pins ∙ f.pins;
  labels = g.labels ∙ f.labels;
  open_call = g.open_call ∙ f.open_call;
}

same_table_on : (a b c : SparseTable) → SameTable a b → SameTable b c → SameTable a c
same_table_on a b c f g = record { header = g.header ∙ f.header; own = g.own ∙ f.own; counts = g.counts ∙ f.counts }

same_page_on : (a b c : SparsePage) → SamePage a b → SamePage b c → SamePage a c
same_page_on a b c f g = record { owner = g.owner ∙ f.owner; frame = g.frame ∙ f.frame; bytes = g.bytes ∙ f.bytes }

-- the tables and the pages of a state
abbrev pub tables_and_pages : SearchState → List StatePart
tables_and_pages w = map Table w.ground.tables.items ++ map Page w.ground.pages.items

-- its domains, tables and pages
abbrev pub all_but_flags : SearchState → List StatePart
all_but_flags w = map Domain w.actors.items ++ tables_and_pages w

-- the parts of a state: its flags, its domains, their tables and the pages
abbrev pub parts_of : SearchState → List StatePart
parts_of w = Flags w.told.items ∷ all_but_flags w

-- the part that is borrowed from a state
abbrev pub part_shown : PartInState → StatePart
part_shown (parts_in_state.Flags told) = Flags told.now.items
part_shown (parts_in_state.Domain a) = Domain a.now
part_shown (parts_in_state.Table t) = Table t.now
part_shown (parts_in_state.Page p) = Page p.now

-- `SamePart` is transitive
pub same_part_on : (p q r : StatePart) → SamePart p q → SamePart q r → SamePart p r
same_part_on (Flags a) (Flags b) (Flags c) f g = g ∙ f
same_part_on (Domain a) (Domain b) (Domain c) f g = same_actor_on a b c f g
same_part_on (Table a) (Table b) (Table c) f g = same_table_on a b c f g
same_part_on (Page a) (Page b) (Page c) f g = same_page_on a b c f g
same_part_on (Flags a) (Flags b) r f g = absurd g
same_part_on (Domain a) (Domain b) r f g = absurd g
same_part_on (Table a) (Table b) r f g = absurd g
same_part_on (Page a) (Page b) r f g = absurd g
same_part_on p q r f g = absurd f

-- `SamePart` is symmetric
pub same_part_back : (p q : StatePart) → SamePart p q → SamePart q p
same_part_back (Flags a) (Flags b) f = sym f
same_part_back (Domain a) (Domain b) f =
    record { next = sym f.next; pins = sym f.pins; labels = sym f.labels; open_call = sym f.open_call }
same_part_back (Table a) (Table b) f = record { header = sym f.header; own = sym f.own; counts = sym f.counts }
same_part_back (Page a) (Page b) f = record { owner = sym f.owner; frame = sym f.frame; bytes = sym f.bytes }
same_part_back p q f = absurd f

-- the parts of a state, and which of them are the same
abbrev pub splitting : Splitting SearchState StatePart
splitting = record {
  of = parts_of;
  same = SamePart;
  same_on = same_part_on;
  same_back = same_part_back;
}
