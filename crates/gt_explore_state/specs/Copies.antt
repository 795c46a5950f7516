-- Initial and copied tables and pages.
use Rattle.std.specs.Prelude.{◌≡◌, ◌%◌, List, [], ◌∷◌}
use Rattle.gt_types.specs.declared.config.DomainConfig.{DomainConfig}
use Rattle.gt_explore_state.specs.Tables.{SameTable}
use Rattle.gt_explore_state.specs.declared.pages.SparsePage.{SparsePage}
use Rattle.gt_explore_state.specs.declared.table.SparseTable.{SparseTable}

-- the table of a domain at the start, whose entries are all untouched
pub record IsTableOf (d : DomainConfig) (t : SparseTable) : Type 0 where
  pub header : t.header ≡ record { version = d.version % 4; frames = d.table_frames % 256 }
  pub own : t.own.items ≡ []
  pub counts : t.counts.items ≡ []

-- the tables are those of these domains at the start, in their order
abbrev pub AreTablesOf : List DomainConfig → List SparseTable → Type 0
AreTablesOf [] [] = Unit {0}
AreTablesOf (d ∷ ds) (t ∷ ts) = IsTableOf d t × AreTablesOf ds ts
AreTablesOf [] (t ∷ ts) = ⊥
AreTablesOf (d ∷ ds) [] = ⊥

-- each of the tables has the same header and rows as the one at its position
abbrev pub SameTables : List SparseTable → List SparseTable → Type 0
SameTables [] [] = Unit {0}
SameTables (t ∷ ts) (u ∷ us) = SameTable t u × SameTables ts us
SameTables [] (u ∷ us) = ⊥
SameTables (t ∷ ts) [] = ⊥

-- the other page is of the same frame, and keeps the same bytes
pub record SamePage (one other : SparsePage) : Type 0 where
  pub owner : other.owner ≡ one.owner
  pub frame : other.frame ≡ one.frame
  pub bytes : other.bytes.items ≡ one.bytes.items

-- each of the pages is the same as the one at its index
abbrev pub SamePages : List SparsePage → List SparsePage → Type 0
SamePages [] [] = Unit {0}
SamePages (p ∷ ps) (q ∷ qs) = SamePage p q × SamePages ps qs
SamePages [] (q ∷ qs) = ⊥
SamePages (p ∷ ps) [] = ⊥
