-- What the calls require of their caller.
use Rattle.std.specs.Prelude.{◌≡◌, ◌≢◌, ◌⊎◌, ℕ, ◌<◌, ◌≤◌, Bool, true, false, [], length, Some, slice_index}
use Rattle.gt_words.specs.Prelude.{some, get_elem?, State, TableId, is_read_only, IsSpelled, control_with, idle_word_of}
use Rattle.gt_words.specs.Prelude.{word_of, control_of, Entry, Invalid, Header, Dir, Read, Write, DomId, GrantRef}
use Rattle.gt_words.specs.Prelude.{Config, IsWithinLimits, LAST_GENERATION, MAX_PINS, TABLE_ENTRIES}
use Rattle.gt_words.specs.Prelude.{EntryChange, First}
use Rattle.gt_words.specs.Prelude.{Second, EntryRecord, View, Demote, Promote, Publish, Revoke, Withdraw}
use Rattle.gt_word_history.specs.Controls.{ForwardsPin, IsValid, LeadsTo, PermitsPin, generation_of, pins_in}
pub use Rattle.gt_words.specs.Keeping.{Holds, HoldsOneMore, Keeps, KeepsOtherRows, KeepsPins, KeepsRecords, KeepsRows}
pub use Rattle.gt_words.specs.Keeping.{SeesNoEarlier, seen_generation}
use Rattle.gt_word_history.specs.History.{StepHistory, part_of}
use Rattle.gt_word_history.specs.Rule.{Layout, Shows, id_at, layout_of, place, position_in}
pub use Rattle.gt_word_history.specs.Rule.{initial}
pub use Rattle.gt_word_history.specs.Places.{Board, IsWide}
use Rattle.gt_word_history.specs.Views.{HasBody, IsAmong, entry_steps, LivePin, last_of, last_seen, own_body, pin_count}
use Rattle.gt_word_history.specs.Views.{live_pins}
use Rattle.gt_word_history.specs.Views.{record_seen, seen, steps_on}

-- what clauses see of a seat: its table of words, its domain and its view
pub record SeatOf : Type 0 where
  pub table : TableId
  pub dom : DomId
  pub view : View

-- the seat belongs to these words, knows their domains, and is that of the domain at its position
pub record IsSeatOf (b : Board) (s : SeatOf) : Type 0 where
  pub table : s.table ≡ b.table
  pub inside : s.view.position < length b.layout.ids
  pub named : id_at b.layout.ids s.view.position ≡ s.dom
  pub ids : s.view.ids ≡ b.layout.ids

-- the run has a configuration within the limits
abbrev pub IsLayoutWithinLimits : Layout → Type 0
IsLayoutWithinLimits k = (c : Config) × IsWithinLimits c × (k ≡ layout_of c)

-- the position of the domain in the run
abbrev pub position_at : Board → DomId → ℕ
position_at b d = position_in b.layout.ids d

-- the domain belongs to the run
abbrev pub HasDomain : Layout → DomId → Type 0
HasDomain k d = position_in k.ids d < length k.ids

-- the reference is one of a domain of the run
abbrev pub IsEntryOf : Board → DomId → GrantRef → Type 0
IsEntryOf b d q = HasDomain b.layout d × (q.0 < TABLE_ENTRIES)

-- the same header with another version
abbrev pub with_version : ℕ → Header → Header
with_version version h = record h { version = version }

-- the same header with another number of table frames
abbrev pub with_frames : ℕ → Header → Header
with_frames frames h = record h { frames = frames }

-- the seat has the same table and domain and began with the same run, whatever it knows by now
pub record IsSameSeat (s s' : SeatOf) : Type 0 where
  pub table : s'.table ≡ s.table
  pub dom : s'.dom ≡ s.dom
  pub position : s'.view.position ≡ s.view.position
  pub first : s'.view.first ≡ s.view.first
  pub headers : s'.view.headers ≡ s.view.headers
  pub ids : s'.view.ids ≡ s.view.ids

-- the word has the owner's part and the generation of this record, and some pins: it encodes kind, readonly, domain,
-- generation and counts
pub record IsWordOf (x : EntryRecord) (word : ℕ) : Type 0 where
  pub reads : ℕ
  pub writes : ℕ
  pub few : (reads < 4096) × (writes < 4096)
  pub spelled : word ≡ word_of x.entry x.generation reads writes
  pub control : control_of word ≡ control_with x.entry x.generation reads writes

-- the word has the owner's part and the generation of this record, and no pins
abbrev pub IsIdleOf : EntryRecord → ℕ → Type 0
IsIdleOf x word = word ≡ idle_word_of x.entry x.generation

-- the word has the owner's part and the generation of this record, and at least one pin
pub record IsBusyOf (x : EntryRecord) (word : ℕ) : Type 0 where
  pub word_is : IsWordOf x word
  pub pinned : (pins_in Read word ≢ 0) ⊎ (pins_in Write word ≢ 0)

-- the seat's last look at the entry r of the domain t found this word, and it read the body words since
abbrev pub HasLooked : ℕ → ℕ → View → ℕ → Type 0
HasLooked t r v word =
    (seen (steps_on t r v) ≡ Some (last_seen t r v)) × ((last_seen t r v).word ≡ word) × HasBody (last_seen t r v)

-- the view has a pin of that kind of a Via to the entry r of the domain t, the Via forwarded the seat's domain, and the
-- record x permits the owner of that Via (after grant_table.h, transitive)
pub record PermitsOwnerOfVia (k : Layout) (t r : ℕ) (v : View) (d : Dir) (x : EntryRecord) : Type 0 where
  pub owner : ℕ
  pub reference : ℕ
  pub via : LivePin
  pub held : IsAmong via (live_pins (steps_on owner reference v))
  pub same_kind : via.0 ≡ d
  pub forwarded : ForwardsPin via.1.entry (id_at k.ids v.position) d
  pub leads : LeadsTo via.1.entry (id_at k.ids t) r
  pub permits : PermitsPin x.entry (id_at k.ids owner) d

-- the entry r of the domain t, as in the record x, permits or forwards the seat's domain for that kind, or permits the
-- owner of a Via to it that the view has pinned for that kind
abbrev pub MayPin : Layout → ℕ → ℕ → View → Dir → EntryRecord → Type 0
MayPin k t r v d x =
    PermitsPin x.entry (id_at k.ids v.position) d
    ⊎ (ForwardsPin x.entry (id_at k.ids v.position) d ⊎ PermitsOwnerOfVia k t r v d x)

-- the seat may pin the entry r of the domain t from this word: it looked at the word last and read the body words
-- since, and the word is not invalid, has room for a pin and permits it (after grant_table.h)
pub record CanPin (k : Layout) (t r : ℕ) (d : Dir) (word : ℕ) (v : View) : Type 0 where
  pub looked : HasLooked t r v word
  pub valid : IsValid word
  pub room : pins_in d word < MAX_PINS
  pub permitted : MayPin k t r v d (record_seen (last_seen t r v))

-- the word is the idle one of the owner's last record, which is invalid and not worn, and the seat has stored the
-- entry's body words (after grant_table.h)
pub record CanPublish (e : Entry) (r word : ℕ) (v : View) : Type 0 where
  pub idle : IsIdleOf (last_of r v) word
  pub none_yet : (last_of r v).entry ≡ Invalid
  pub room : (last_of r v).generation < LAST_GENERATION
  pub some : e ≢ Invalid
  pub spelled : IsSpelled e (own_body r First v) (own_body r Second v)

-- the word is the idle one of the owner's last record, which is an entry (after grant_table.h)
pub record CanRevoke (r word : ℕ) (v : View) : Type 0 where
  pub idle : IsIdleOf (last_of r v) word
  pub some : (last_of r v).entry ≢ Invalid

-- the word is one of the owner's last record, which is an entry, worn or not, with pins or without
pub record CanWithdraw (r word : ℕ) (v : View) : Type 0 where
  pub word_is : IsWordOf (last_of r v) word
  pub some : (last_of r v).entry ≢ Invalid

-- the word is one of the owner's last record, which is an entry with this readonly, and not worn (after grant_table.h)
pub record CanTurn (ro : Bool) (r word : ℕ) (v : View) : Type 0 where
  pub word_is : IsWordOf (last_of r v) word
  pub some : (last_of r v).entry ≢ Invalid
  pub now : is_read_only (last_of r v).entry ≡ ro
  pub room : (last_of r v).generation < LAST_GENERATION

-- the word is one of the owner's last record, which is a writable entry and not worn, and it has no write pins (after
-- grant_table.h)
abbrev pub CanDemote : ℕ → ℕ → View → Type 0
CanDemote r word v = CanTurn false r word v × (pins_in Write word ≡ 0)

-- what the owner's exchange from this word requires
abbrev pub CanChange : EntryChange → ℕ → ℕ → View → Type 0
CanChange (Publish e) r word v = CanPublish e r word v
CanChange Revoke r word v = CanRevoke r word v
CanChange Withdraw r word v = CanWithdraw r word v
CanChange Demote r word v = CanDemote r word v
CanChange Promote r word v = CanTurn true r word v

-- after these steps of all seats, no seat has a pin of the entry r of the domain t
abbrev pub HasNoPins : ℕ → ℕ → StepHistory → Type 0
HasNoPins t r past = (i : ℕ) → live_pins (entry_steps t r (part_of i past)) ≡ []

-- after these steps of all seats, no seat has a write pin of the entry r of the domain t
abbrev pub HasNoWritePins : ℕ → ℕ → StepHistory → Type 0
HasNoWritePins t r past = (i : ℕ) → pin_count Write (live_pins (entry_steps t r (part_of i past))) ≡ 0

-- in each state that words and views show, the control word of the entry counts the pins of that kind that a view has
-- of it
abbrev pub CountsPins : Layout → ℕ → ℕ → Dir → Type 0
CountsPins k t r d =
    (s : State (Unit {0}) View) (i : ℕ) (v : View) → Shows k s → get_elem? s.views i ≡ some v
    → pin_count d (live_pins (steps_on t r v)) ≤ pins_in d (slice_index s.words (place t r 0))

-- the word is of no earlier generation than the one that the view saw last of the entry, if it saw one
abbrev pub IsNotEarlier : ℕ → ℕ → View → ℕ → Type 0
IsNotEarlier t r v word = seen_generation t r v ≤ generation_of word
