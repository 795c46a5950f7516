-- The kinds of entries and their parts.
use Rattle.std.specs.Prelude.{◌^◌, ◌<◌, ℕ, Bool, true, false}
use Rattle.gt_model.specs.declared.change.EntryChange.{EntryChange}
use Rattle.gt_model.specs.declared.change.EntryChange.TheVariants.{Publish, Revoke, Withdraw, Demote, Promote}
use Rattle.gt_model.specs.declared.entry.Entry.{Entry}
use Rattle.gt_model.specs.declared.entry.Entry.TheVariants.{Invalid, Page, Sub, Via}

-- the entry grants nothing (grant_table.h)
abbrev pub is_invalid : Entry → Bool
is_invalid Invalid = true
is_invalid (Page dom ro frame) = false
is_invalid (Sub dom ro frame off len) = false
is_invalid (Via dom ro dom2 gref) = false

-- the entry refuses writing (grant_table.h)
abbrev pub is_read_only : Entry → Bool
is_read_only Invalid = false
is_read_only (Page dom ro frame) = ro
is_read_only (Sub dom ro frame off len) = ro
is_read_only (Via dom ro dom2 gref) = ro

-- the same entry with another readonly bit
abbrev pub with_ro : Bool → Entry → Entry
with_ro ro Invalid = Invalid
with_ro ro (Page dom old frame) = Page dom ro frame
with_ro ro (Sub dom old frame off len) = Sub dom ro frame off len
with_ro ro (Via dom old dom2 gref) = Via dom ro dom2 gref

-- the owner's frame that the entry grants, 0 if it grants none (grant_table.h)
abbrev pub frame_of : Entry → ℕ
frame_of Invalid = 0
frame_of (Page dom ro frame) = frame
frame_of (Sub dom ro frame off len) = frame
frame_of (Via dom ro dom2 gref) = 0

-- each number of the entry fits its type, as in every value of the program
abbrev pub IsEntry : Entry → Type 0
IsEntry Invalid = Unit {0}
IsEntry (Page dom ro frame) = (dom.0 < 65536) × (frame < 2 ^ 64)
IsEntry (Sub dom ro frame off len) = (dom.0 < 65536) × (frame < 2 ^ 64) × (off < 65536) × (len < 65536)
IsEntry (Via dom ro dom2 gref) = (dom.0 < 65536) × (dom2.0 < 65536) × (gref.0 < 2 ^ 32)

-- the entry after a change: the published one, an invalid one, or the same with another readonly bit
abbrev pub changed_entry : EntryChange → Entry → Entry
changed_entry (Publish entry) old = entry
changed_entry Revoke old = Invalid
changed_entry Withdraw old = Invalid
changed_entry Demote old = with_ro true old
changed_entry Promote old = with_ro false old

-- how much a change raises the generation
abbrev pub raise_of : EntryChange → ℕ
raise_of (Publish entry) = 1
raise_of Revoke = 0
raise_of Withdraw = 0
raise_of Demote = 1
raise_of Promote = 1
