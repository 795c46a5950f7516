-- The bytes that encode an entry, and the field that is refused of bytes that encode none.
use Rattle.std.specs.Prelude.{◌≡◌, ℕ, ◌+◌, ◌/◌, ◌%◌, ◌<◌, Bool, ◌&&◌, ◌||◌, not, ◌==◌, nat_lt, if◌then◌else◌, List}
use Rattle.std.specs.Prelude.{[], ◌∷◌, ◌++◌, length, take, drop, All, find, Option, MatchBool}
use Rattle.byteorder.specs.Endian.{little_number, little_bytes}
use Rattle.gt_model.specs.Words.{flag}
use Rattle.gt_model.specs.declared.entry.Entry.{Entry}
use Rattle.gt_model.specs.declared.entry.Entry.TheVariants.{Invalid, Page, Sub, Via}
use Rattle.gt_types.specs.declared.denial.Field.{Field}
use Rattle.gt_types.specs.declared.denial.Field.TheVariants.{Length, Kind, Reading, Writing, Pwt, Pcd, Pat, SubPage}
use Rattle.gt_types.specs.declared.denial.Field.TheVariants.{Reserved}

-- the number in n bytes starting at this offset, the lowest byte first (own: all numbers are little-endian)
abbrev pub field : List ℕ → ℕ → ℕ → ℕ
field bytes at n = little_number n (drop at bytes)

-- the bytes with a number in n bytes starting at this offset
abbrev pub with_field : List ℕ → ℕ → ℕ → ℕ → List ℕ
with_field bytes at n number = take at bytes ++ (little_bytes n number ++ drop (at + n) bytes)

-- the flags of an entry are its first two bytes (grant_table.h)
abbrev pub flags_of : List ℕ → ℕ
flags_of bytes = field bytes 0 2

-- n bytes
abbrev pub AreBytes : ℕ → List ℕ → Type 0
AreBytes n bytes = (length bytes ≡ n) × All (λ byte. byte < 256) bytes

-- version 1: flags, domain, frame (grant_table.h, grant_entry_v1)
abbrev pub IsLaidOutV1 : List ℕ → Entry → Type 0
IsLaidOutV1 bytes Invalid = ⊥
IsLaidOutV1 bytes (Page dom ro frame) =
    (flags_of bytes ≡ 1 + flag ro) × (field bytes 2 2 ≡ dom.0) × (field bytes 4 4 ≡ frame)
IsLaidOutV1 bytes (Sub dom ro frame off len) = ⊥
IsLaidOutV1 bytes (Via dom ro dom2 gref) = ⊥

-- version 2: a full page has flags, domain, padding, frame; a sub-page has flags, domain, start, length, frame; a
-- transitive entry has flags, domain, next domain, padding, reference, padding (grant_table.h, grant_entry_v2)
abbrev pub IsLaidOutV2 : List ℕ → Entry → Type 0
IsLaidOutV2 bytes Invalid = ⊥
IsLaidOutV2 bytes (Page dom ro frame) =
    (flags_of bytes ≡ 1 + flag ro) × (field bytes 2 2 ≡ dom.0) × (field bytes 8 8 ≡ frame)
IsLaidOutV2 bytes (Sub dom ro frame off len) =
    (flags_of bytes ≡ 257 + flag ro) × (field bytes 2 2 ≡ dom.0) × (field bytes 4 2 ≡ off) × (field bytes 6 2 ≡ len)
    × (field bytes 8 8 ≡ frame)
IsLaidOutV2 bytes (Via dom ro dom2 gref) =
    (flags_of bytes ≡ 3 + flag ro) × (field bytes 2 2 ≡ dom.0) × (field bytes 4 2 ≡ dom2.0) × (field bytes 8 4 ≡ gref.0)

-- the padding of version 2 is zero
abbrev pub IsZeroPadded : List ℕ → Entry → Type 0
IsZeroPadded bytes Invalid = Unit {0}
IsZeroPadded bytes (Page dom ro frame) = field bytes 4 4 ≡ 0
IsZeroPadded bytes (Sub dom ro frame off len) = Unit {0}
IsZeroPadded bytes (Via dom ro dom2 gref) = (field bytes 6 2 ≡ 0) × (field bytes 12 4 ≡ 0)

-- the bytes encode the entry in a table of version 1; there is no padding (grant_table.h)
pub record SpellsV1 (bytes : List ℕ) (entry : Entry) : Type 0 where
  pub size : AreBytes 8 bytes
  pub layout : IsLaidOutV1 bytes entry

-- the bytes encode the entry in a table of version 2; padding is ignored (grant_table.h)
pub record SpellsV2 (bytes : List ℕ) (entry : Entry) : Type 0 where
  pub size : AreBytes 16 bytes
  pub layout : IsLaidOutV2 bytes entry

-- the bytes encode the entry in a table of this version; only versions 1 and 2 have entries (grant_table.h)
abbrev pub Spells : ℕ → List ℕ → Entry → Type 0
Spells version bytes entry = MatchBool (version == 2) (SpellsV2 bytes entry) ((version ≡ 1) × SpellsV1 bytes entry)

-- the bit of the flags with this value is set
abbrev pub is_set : ℕ → ℕ → Bool
is_set flags bit = flags / bit % 2 == 1

-- tables have version 1 or 2 (grant_table.h)
abbrev pub is_table_version : ℕ → Bool
is_table_version version = (version == 1) || (version == 2)

-- the number of bytes of an entry in a table of this version (grant_table.h)
abbrev pub entry_size : ℕ → ℕ
entry_size version = if version == 2 then 16 else 8

-- A table of this version refuses the field of `size` bytes with these flags. It refuses: a length other than that of
-- its version, and any length in a version that no table has; a type other than page or, in version 2, transitive; a
-- bit of the hypervisor or of the cache; the sub-page bit in version 1 or with the transitive type; a bit that is not
-- defined.
abbrev pub is_refused : ℕ → ℕ → ℕ → Field → Bool
is_refused version size flags Length = not (is_table_version version && (size == entry_size version))
is_refused version size flags Kind = (flags % 4 == 0) || (flags % 4 == 2) || ((flags % 4 == 3) && not (version == 2))
is_refused version size flags Reading = is_set flags 8
is_refused version size flags Writing = is_set flags 16
is_refused version size flags Pwt = is_set flags 32
is_refused version size flags Pcd = is_set flags 64
is_refused version size flags Pat = is_set flags 128
is_refused version size flags SubPage = is_set flags 256 && (not (version == 2) || (flags % 4 == 3))
is_refused version size flags Reserved = nat_lt 0 (flags / 512)

-- the fields of the flags, in the order in which they are checked
abbrev pub flag_fields : List Field
flag_fields = Kind ∷ Reading ∷ Writing ∷ Pwt ∷ Pcd ∷ Pat ∷ SubPage ∷ Reserved ∷ []

-- the first field of the flags that a table of this version refuses
abbrev pub refused_flag : ℕ → ℕ → Option Field
refused_flag version flags = find (is_refused version (entry_size version) flags) flag_fields

-- the first field of the bytes that is refused; the length is checked first
abbrev pub first_refused : ℕ → List ℕ → Option Field
first_refused version bytes = find (is_refused version (length bytes) (flags_of bytes)) (Length ∷ flag_fields)
