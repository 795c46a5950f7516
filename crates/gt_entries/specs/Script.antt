-- The lines of a script that grants the entries of a dump.
use Rattle.std.specs.Prelude.{ℕ, ◌-◌, ◌%◌, ◌==◌, nat_lt, List, [], ◌∷◌, ◌++◌, take, codes, decimal, if◌then◌else◌}
use Rattle.hex.specs.Hex.{encode_lower}
use Rattle.gt_text.specs.Printing.{part_text}
use Rattle.gt_types.specs.declared.DomId.{DomId}
use Rattle.gt_types.specs.declared.limits.TheConstants.{MAX_FRAMES}
use Rattle.gt_model.specs.Entries.{frame_of}
use Rattle.gt_model.specs.declared.entry.Entry.{Entry}

-- the offset of the frame number in an entry of this version; it extends to the end of the entry (grant_table.h)
abbrev pub frame_place : ℕ → ℕ
frame_place version = if version == 2 then 8 else 4

-- the bytes of an entry with another frame number, below 256, its lowest byte first
abbrev pub with_frame : ℕ → ℕ → List ℕ → List ℕ
with_frame version number bytes =
    take (frame_place version) bytes
    ++ (number ∷ take (frame_place version - 1) (0 ∷ 0 ∷ 0 ∷ 0 ∷ 0 ∷ 0 ∷ 0 ∷ []))

-- the bytes for a script: a frame number that is not below MAX_FRAMES is taken modulo that
abbrev pub renumbered : ℕ → Entry → List ℕ → List ℕ
renumbered version entry bytes =
    if nat_lt (frame_of entry) MAX_FRAMES then bytes else with_frame version (frame_of entry % MAX_FRAMES) bytes

-- the true number of a frame that is renumbered
abbrev pub frame_note : Entry → List ℕ
frame_note entry = if nat_lt (frame_of entry) MAX_FRAMES then [] else part_text (codes "frame") (frame_of entry)

-- a comment with these notes, if there are any
abbrev pub comment_text : List ℕ → List ℕ
comment_text [] = []
comment_text (first ∷ rest) = codes " #" ++ (first ∷ rest)

-- `do DOM bytes REF HEX`, and in a comment the entry's true frame and its live bits
abbrev pub bytes_call_text : DomId → ℕ → ℕ → Entry → List ℕ → List ℕ → List ℕ
bytes_call_text dom version ref entry plain live =
    codes "do " ++ decimal dom.0 ++ codes " bytes " ++ decimal ref ++ codes " "
    ++ encode_lower (renumbered version entry plain) ++ comment_text (frame_note entry ++ live) ++ codes "\n"
