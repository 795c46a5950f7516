-- What an entry permits.
use Rattle.std.specs.Prelude.{ℕ, Bool, true, false, ◌&&◌, not, ◌==◌, nat_le, ◌+◌}
use Rattle.gt_model.specs.declared.entry.Entry.{Entry}
use Rattle.gt_model.specs.declared.entry.Entry.TheVariants.{Invalid, Page, Sub, Via}
use Rattle.gt_types.specs.declared.Dir.{Dir}
use Rattle.gt_types.specs.declared.Dir.TheVariants.{Read, Write}
use Rattle.gt_types.specs.declared.DomId.{DomId}
use Rattle.gt_types.specs.declared.Use.{Use}
use Rattle.gt_types.specs.declared.Use.TheVariants as uses

-- a read-only entry refuses writing (grant_table.h)
abbrev pub allows_direction : Bool → Dir → Bool
allows_direction ro Read = true
allows_direction ro Write = not ro

-- the bytes are for a copy
abbrev pub is_copying : Use → Bool
is_copying uses.Map = false
is_copying uses.Copy = true

-- the entry permits the domain this direction and use of len bytes, starting at off: a page permits any of its bytes,
-- a sub-page only copies of its own (grant_table.h)
abbrev pub permits : Entry → DomId → Dir → Use → ℕ → ℕ → Bool
permits Invalid d dir purpose off len = false
permits (Page dom ro frame) d dir purpose off len = (dom.0 == d.0) && allows_direction ro dir
permits (Sub dom ro frame start size) d dir purpose off len =
    (dom.0 == d.0) && allows_direction ro dir && is_copying purpose && nat_le start off
    && nat_le (off + len) (start + size)
permits (Via dom ro dom2 gref) d dir purpose off len = false

-- the entry is transitive, and lets the domain copy in this direction by the grant that it leads to (grant_table.h)
abbrev pub forwards : Entry → DomId → Dir → Bool
forwards (Via dom ro dom2 gref) d dir = (dom.0 == d.0) && allows_direction ro dir
forwards Invalid d dir = false
forwards (Page dom ro frame) d dir = false
forwards (Sub dom ro frame off len) d dir = false

-- the entry leads to a grant of this domain (grant_table.h)
abbrev pub leads_to : Entry → DomId → Bool
leads_to (Via dom ro dom2 gref) owner = dom2.0 == owner.0
leads_to Invalid owner = false
leads_to (Page dom ro frame) owner = false
leads_to (Sub dom ro frame off len) owner = false

-- the entry grants this frame of its owner (grant_table.h)
abbrev pub is_of_frame : Entry → ℕ → Bool
is_of_frame (Page dom ro frame) number = frame == number
is_of_frame (Sub dom ro frame off len) number = frame == number
is_of_frame Invalid number = false
is_of_frame (Via dom ro dom2 gref) number = false
