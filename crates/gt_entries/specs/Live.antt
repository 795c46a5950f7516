-- The bits that a live host sets in the flags of an entry.
use Rattle.std.specs.Prelude.{ℕ, ◌/◌, ◌%◌, ◌*◌, ◌-◌, ◌≡◌, List, [], ◌∷◌, if◌then◌else◌, codes}
use Rattle.gt_model.specs.Bytes.{is_set}

-- a byte without its bits 3 and 4
abbrev pub cleared_byte : ℕ → ℕ
cleared_byte byte = byte - byte / 8 % 4 * 8

-- only the bits 3 and 4 of a byte are cleared: the three below and the three above are unchanged
abbrev pub ClearsLiveBits : ℕ → Type 0
ClearsLiveBits byte =
    (cleared_byte byte / 8 % 4 ≡ 0) × (cleared_byte byte % 8 ≡ byte % 8) × (cleared_byte byte / 32 ≡ byte / 32)

-- the bytes of an entry with the bits reading and writing cleared: bits 3 and 4 of its flags, whose first byte
-- is the low one (grant_table.h: GTF_reading is 8, GTF_writing is 16)
abbrev pub cleared : List ℕ → List ℕ
cleared [] = []
cleared (first ∷ rest) = cleared_byte first ∷ rest

-- which of the two bits an entry with this first byte has
abbrev pub live_with : ℕ → List ℕ
live_with first = if is_set first 8
    then (if is_set first 16 then codes " live=reading,writing" else codes " live=reading")
    else (if is_set first 16 then codes " live=writing" else [])

-- which of the two bits the entry has
abbrev pub live_text : List ℕ → List ℕ
live_text [] = []
live_text (first ∷ rest) = live_with first
