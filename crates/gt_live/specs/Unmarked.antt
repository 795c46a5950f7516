-- The bytes of an entry without the bits that only the hypervisor sets.
use Rattle.std.specs.Prelude.{ℕ, ◌+◌, ◌*◌, ◌/◌, ◌%◌, List, [], ◌∷◌}

-- the first byte of an entry without the bits 8, GTF_reading, and 16, GTF_writing (grant_table.h)
abbrev pub unmarked_byte : ℕ → ℕ
unmarked_byte byte = byte / 32 * 32 + byte % 8

-- the bytes of an entry without them
abbrev pub unmarked : List ℕ → List ℕ
unmarked [] = []
unmarked (byte ∷ bytes) = unmarked_byte byte ∷ bytes

-- the bytes of an entry after the hypervisor has set some of these bits, which were clear: 1 reading, 2 writing, 3 both
abbrev pub with_marks : ℕ → List ℕ → List ℕ
with_marks marks [] = []
with_marks marks (byte ∷ bytes) = (byte + 8 * marks) ∷ bytes
