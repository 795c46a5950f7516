-- The parts of a control word, and the words that owners and pins make of it.
use Rattle.std.specs.Prelude.{◌≡◌, ◌≢◌, ℕ, ◌+◌, ◌*◌, Bool, true, false, not}
use Rattle.gt_types.specs.declared.Dir.{Dir}
use Rattle.gt_types.specs.declared.Dir.TheVariants.{Read, Write}
use Rattle.gt_types.specs.declared.DomId.{DomId}
use Rattle.gt_types.specs.declared.Use.{Use}
use Rattle.gt_model.specs.declared.control.EntryKind.TheVariants as kinds
use Rattle.gt_model.specs.declared.entry.Entry.{Entry}
use Rattle.gt_model.specs.declared.entry.Entry.TheVariants.{Invalid, Page, Sub, Via}
use Rattle.gt_model.specs.Entries.{is_read_only}
use Rattle.gt_model.specs.Permits.{permits, forwards}
use Rattle.gt_model.specs.Spelling.{low_bits}
use Rattle.gt_model.specs.Words.{control_of, pins_of, kind_of}

-- the generation in a control word
abbrev pub generation_of : ℕ → ℕ
generation_of word = (control_of word).generation

-- the number of pins of this kind that a control word counts
abbrev pub pins_in : Dir → ℕ → ℕ
pins_in d word = pins_of d (control_of word)

-- the word encodes a valid entry
abbrev pub IsValid : ℕ → Type 0
IsValid word = kind_of word ≢ kinds.Invalid

-- the invalid word of the same generation, with no pins
abbrev pub invalid_word : ℕ → ℕ
invalid_word word = 17592186044416 * generation_of word

-- the invalid word of the same generation, with the same pins
abbrev pub withdrawn_word : ℕ → ℕ
withdrawn_word word = 17592186044416 * generation_of word + 16 * pins_in Read word + 65536 * pins_in Write word

-- the word of the same entry read-only, at the next generation, if the entry was writable
abbrev pub demoted_word : ℕ → ℕ
demoted_word word = word + 17592186044420

-- the word of the same entry writable, at the next generation, if the entry was read-only
abbrev pub promoted_word : ℕ → ℕ
promoted_word word = word + 17592186044412

-- the word of the same entry with this readonly, at the next generation, if it had the other readonly
abbrev pub turned_word : Bool → ℕ → ℕ
turned_word true word = demoted_word word
turned_word false word = promoted_word word

-- the word encodes an entry that has the other readonly
abbrev pub IsTurnable : Bool → ℕ → Type 0
IsTurnable o word =
    (e : Entry) × (rest : ℕ) × (e ≢ Invalid) × (is_read_only e ≡ not o) × (word ≡ low_bits e + 16 * rest)

-- the entry permits the domain some use and some range in this direction (grant_table.h)
abbrev pub PermitsPin : Entry → DomId → Dir → Type 0
PermitsPin e d dir = (purpose : Use) × (off : ℕ) × (len : ℕ) × (permits e d dir purpose off len ≡ true)

-- the entry forwards the domain in this direction (grant_table.h, transitive)
abbrev pub ForwardsPin : Entry → DomId → Dir → Type 0
ForwardsPin e d dir = forwards e d dir ≡ true

-- the entry leads to the entry r of the domain d (grant_table.h, transitive)
abbrev pub LeadsTo : Entry → DomId → ℕ → Type 0
LeadsTo Invalid d r = ⊥
LeadsTo (Page e o f) d r = ⊥
LeadsTo (Sub e o f a n) d r = ⊥
LeadsTo (Via e o u q) d r = (u.0 ≡ d.0) × (q.0 ≡ r)
