-- The texts of entries.
use Rattle.std.specs.Prelude.{ℕ, Bool, true, false, List, ◌++◌, codes, decimal}
use Rattle.gt_text.specs.Printing.{part_text}
use Rattle.gt_types.specs.declared.DomId.{DomId}
use Rattle.gt_model.specs.declared.entry.Entry.{Entry}
use Rattle.gt_model.specs.declared.entry.Entry.TheVariants as entries

-- the mode of an entry, as a script writes it
abbrev pub mode_text : Bool → List ℕ
mode_text true = codes "ro"
mode_text false = codes "rw"

-- `KIND DOM MODE`
abbrev pub entry_kind_text : List ℕ → DomId → Bool → List ℕ
entry_kind_text kind dom ro = kind ++ codes " " ++ decimal dom.0 ++ codes " " ++ mode_text ro

-- the range of a sub-page, in bytes
abbrev pub range_text : ℕ → ℕ → List ℕ
range_text off len = part_text (codes "off") off ++ part_text (codes "len") len

-- an entry, as a script's `show` prints it
abbrev pub entry_text : Entry → List ℕ
entry_text entries.Invalid = codes "invalid"
entry_text (entries.Page dom ro frame) = entry_kind_text (codes "page") dom ro ++ part_text (codes "frame") frame
entry_text (entries.Sub dom ro frame off len) =
    entry_kind_text (codes "sub") dom ro ++ part_text (codes "frame") frame ++ range_text off len
entry_text (entries.Via dom ro to gref) =
    entry_kind_text (codes "via") dom ro ++ part_text (codes "to") to.0 ++ part_text (codes "ref") gref.0
