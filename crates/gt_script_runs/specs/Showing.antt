-- The lines that show an entry.
use Rattle.std.specs.Prelude.{ℕ, List, ◌++◌, codes, decimal, Option, Some, None}
use Rattle.std.specs.Int.{to_be_bytes, w16}
use Rattle.hex.specs.Hex.{encode_lower}
pub use Rattle.gt_text.specs.Printing.{part_text}
pub use Rattle.gt_text.specs.Entries.{entry_text}
use Rattle.gt_types.specs.declared.DomId.{DomId}
use Rattle.gt_types.specs.declared.GrantRef.{GrantRef}
use Rattle.gt_model.specs.Spelling.{control_with}
use Rattle.gt_model.specs.Words.{status_bits_of}
use Rattle.gt_core.specs.declared.core_state.EntryView.{EntryView}

-- a status word: four lower-case hexadecimal digits
abbrev pub status_text : ℕ → List ℕ
status_text status = encode_lower (to_be_bytes w16 status)

-- a generation, and the live pins of each kind
abbrev pub counts_text : ℕ → ℕ → ℕ → List ℕ
counts_text generation reads writes =
    part_text (codes "gen") generation ++ part_text (codes "reads") reads ++ part_text (codes "writes") writes

-- what a line shows of an entry: the entry, its generation, its live pins of each
-- kind, and its status word; or that there is none
abbrev pub entry_view_text : Option EntryView → List ℕ
entry_view_text None = codes "none"
entry_view_text (Some shown) =
    entry_text shown.entry ++ counts_text shown.generation shown.reads shown.writes
    ++ codes " status="
    ++ status_text (status_bits_of (control_with shown.entry shown.generation shown.reads shown.writes))

-- `LINE show ID REF SHOWN`
abbrev pub show_line : ℕ → DomId → GrantRef → Option EntryView → List ℕ
show_line line dom gref shown =
    decimal line ++ codes " show " ++ decimal dom.0 ++ codes " " ++ decimal gref.0 ++ codes " " ++ entry_view_text shown
    ++ codes "\n"
