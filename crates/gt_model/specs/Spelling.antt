-- The words that encode an entry: its control word and two body words.
use Rattle.std.specs.Prelude.{◌≡◌, ℕ, ◌+◌, ◌*◌, ◌/◌, ◌%◌, ◌^◌, false}
use Rattle.gt_model.specs.Words.{flag}
use Rattle.gt_model.specs.declared.control.Control.{Control}
use Rattle.gt_model.specs.declared.control.EntryKind.{EntryKind}
use Rattle.gt_model.specs.declared.control.EntryKind.TheVariants as kinds
use Rattle.gt_model.specs.declared.entry.Entry.{Entry}
use Rattle.gt_model.specs.declared.entry.Entry.TheVariants.{Invalid, Page, Sub, Via}

-- the low four bits of the entry's control word
abbrev pub low_bits : Entry → ℕ
low_bits Invalid = 0
low_bits (Page dom ro frame) = 1 + flag ro
low_bits (Sub dom ro frame off len) = 9 + flag ro
low_bits (Via dom ro dom2 gref) = 3 + flag ro

-- the domain that the entry names, 0 if it is invalid
abbrev pub named_domain : Entry → ℕ
named_domain Invalid = 0
named_domain (Page dom ro frame) = dom.0
named_domain (Sub dom ro frame off len) = dom.0
named_domain (Via dom ro dom2 gref) = dom.0

-- the control word of the entry at a generation, without pins
abbrev pub idle_word_of : Entry → ℕ → ℕ
idle_word_of e generation = low_bits e + 268435456 * named_domain e + 17592186044416 * generation

-- the control word of the entry at a generation, with these read and write pins
abbrev pub word_of : Entry → ℕ → ℕ → ℕ → ℕ
word_of e generation reads writes = idle_word_of e generation + 16 * reads + 65536 * writes

-- the parts of that word
abbrev pub control_with : Entry → ℕ → ℕ → ℕ → Control
control_with Invalid generation reads writes =
    record {
      kind = kinds.Invalid;
      ro = false;
      reads = reads;
      writes = writes;
      dom = record { 0 = 0 };
      generation = generation;
    }
control_with (Page dom ro frame) generation reads writes =
    record { kind = kinds.Page; ro = ro; reads = reads; writes = writes; dom = dom; generation = generation }
control_with (Sub dom ro frame off len) generation reads writes =
    record { kind = kinds.Sub; ro = ro; reads = reads; writes = writes; dom = dom; generation = generation }
control_with (Via dom ro dom2 gref) generation reads writes =
    record { kind = kinds.Via; ro = ro; reads = reads; writes = writes; dom = dom; generation = generation }

-- body word 0: the frame number, or in bits 0 to 15 the next domain and in 16 to 47 its reference
abbrev pub first_body : Entry → ℕ
first_body Invalid = 0
first_body (Page dom ro frame) = frame
first_body (Sub dom ro frame off len) = frame
first_body (Via dom ro dom2 gref) = dom2.0 + gref.0 * 65536

-- body word 1, used only by a sub-page: in bits 0 to 15 its offset, in 16 to 31 its length
abbrev pub second_body : Entry → ℕ
second_body (Sub dom ro frame off len) = off + len * 65536
second_body Invalid = 0
second_body (Page dom ro frame) = 0
second_body (Via dom ro dom2 gref) = 0

-- the body words encode the entry: the second counts only for a sub-page, and neither counts for an invalid entry
abbrev pub IsSpelled : Entry → ℕ → ℕ → Type 0
IsSpelled Invalid first second = Unit {0}
IsSpelled (Page dom ro frame) first second = first ≡ frame
IsSpelled (Sub dom ro frame off len) first second = (first ≡ frame) × (second ≡ off + len * 65536)
IsSpelled (Via dom ro dom2 gref) first second = first ≡ dom2.0 + gref.0 * 65536

-- the entry that a control of this kind and two body words encode
abbrev pub entry_with : EntryKind → Control → ℕ → ℕ → Entry
entry_with kinds.Invalid c first second = Invalid
entry_with kinds.Page c first second = Page c.dom c.ro first
entry_with kinds.Sub c first second = Sub c.dom c.ro first (second % 65536) (second / 65536 % 65536)
entry_with kinds.Via c first second =
    Via c.dom c.ro (record { 0 = first % 65536 }) (record { 0 = first / 65536 % 2 ^ 32 })

-- the entry that a control and two body words encode
abbrev pub entry_of : Control → ℕ → ℕ → Entry
entry_of c first second = entry_with c.kind c first second
