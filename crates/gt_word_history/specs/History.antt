-- The one order of all steps of all seats, and the words and the state of the core that it makes. Lists begin with the
-- last item.
use Rattle.std.specs.Prelude.{◌≡◌, ◌≢◌, ℕ, ◌+◌, ◌-◌, ◌*◌, ◌/◌, ◌%◌, ◌^◌, ◌<◌, ◌≤◌, cond, ◌==◌, List, [], ◌∷◌, length}
use Rattle.std.specs.Prelude.{map, slice_index, slice_index_or, suc, zero}
use Rattle.gt_word_history.specs.Prelude.{some, get_elem?, State, unit_of, BodyWord, First, Second, DomId, EntryStep, Looked}
use Rattle.gt_word_history.specs.Prelude.{ReadBody, Pinned, PinMissed, Unpinned, StoredBody, Changed, ChangeMissed}
use Rattle.gt_word_history.specs.Prelude.{HeaderStep}
use Rattle.gt_word_history.specs.Prelude.{SeatStep, View, EntryRecord, Invalid, DOMAIN_WORDS, ENTRY_WORDS}
use Rattle.gt_word_history.specs.declared.view.HeaderStep.TheVariants as header
use Rattle.gt_word_history.specs.declared.view.SeatStep.TheVariants.{Entry, Flag, Frame, Header}
use Rattle.gt_word_history.specs.Views.{LivePin, entry_steps, header_steps, last_record, live_pins, stored_body}
use Rattle.gt_word_history.specs.Views.{stored_header}

-- the run as far as the words need it: the domains in order, their number, the first generation of all entries, and the
-- first header of each domain
pub record Layout : Type 0 where
  pub ids : List DomId
  pub domains : ℕ
  pub first : ℕ
  pub headers : List ℕ

-- the index of the word j of the entry r of the domain t: after the header of its domain, each entry in its own row
abbrev pub place : ℕ → ℕ → ℕ → ℕ
place t r j = t * DOMAIN_WORDS + (ENTRY_WORDS * r + (ENTRY_WORDS + j))

-- the index of the header word of a domain: the first of its words
abbrev pub header_place : ℕ → ℕ
header_place t = t * DOMAIN_WORDS

-- the words at the start: the first header of each domain, the invalid word
-- of the first generation for each entry, and zeros
abbrev pub initial : Layout → ℕ → ℕ
initial k i =
    cond (i % DOMAIN_WORDS == 0) (slice_index k.headers (i / DOMAIN_WORDS))
    (cond (i % DOMAIN_WORDS % ENTRY_WORDS == 0) (17592186044416 * k.first) 0)

-- the index of a body word among the words of an entry
abbrev pub body_word_index : BodyWord → ℕ
body_word_index First = 1
body_word_index Second = 2

-- the steps of all seats in their one order, each with the position of its seat
abbrev pub StepHistory : Type 0
StepHistory = List (ℕ × SeatStep)

-- the moment of a step: the step, with the steps of all seats before it
abbrev pub Moment : Type 0
Moment = StepHistory × SeatStep

-- the steps of a history that the seat at a position made
abbrev pub part_of : ℕ → StepHistory → List SeatStep
part_of i [] = []
part_of i (p ∷ h) = cond (p.0 == i) (p.1 ∷ part_of i h) (part_of i h)

-- a history up to the last step of the seat at a position
abbrev pub up_to : ℕ → StepHistory → StepHistory
up_to i [] = []
up_to i (p ∷ h) = cond (p.0 == i) (p ∷ h) (up_to i h)

-- the word of its entry that a step is on: the control word or a body word, by its index
abbrev pub word_on : EntryStep → ℕ
word_on (ReadBody h n) = body_word_index h
word_on (StoredBody h n) = body_word_index h
word_on _ = 0

-- the index of the word that a step is on
abbrev pub word_place_of : SeatStep → ℕ
word_place_of (Entry t r m) = place t r (word_on m)
word_place_of (Header t m) = header_place t
word_place_of (Frame t f m) = 0
word_place_of (Flag f m) = 0

-- the number that a step on an entry leaves, by the number found: a pin adds one, a release takes one away, a store and
-- a taken exchange set it, and any other step leaves it (C11 atomics)
abbrev pub left_on_entry : EntryStep → ℕ → ℕ
left_on_entry (Looked w) n = n
left_on_entry (ReadBody h w) n = n
left_on_entry (PinMissed d e f w) n = n
left_on_entry (ChangeMissed c e f w) n = n
left_on_entry (Pinned d e y) n = n + unit_of d
left_on_entry (Unpinned d g) n = (n + (2 ^ 64 - unit_of d)) % 2 ^ 64
left_on_entry (StoredBody h w) n = w
left_on_entry (Changed c e w y) n = w

-- the number that a step leaves, by the number found
abbrev pub left_by : SeatStep → ℕ → ℕ
left_by (Entry t r m) n = left_on_entry m n
left_by (Header t (header.Looked w)) n = n
left_by (Header t (header.Stored w)) n = w
left_by (Frame t f m) n = n
left_by (Flag f m) n = n

-- the word at an index that a history makes
abbrev pub word_after : Layout → StepHistory → ℕ → ℕ
word_after k [] i = initial k i
word_after k (p ∷ h) i = cond (word_place_of p.1 == i) (left_by p.1 (word_after k h i)) (word_after k h i)

-- the step on an entry records that it found this number: a taken exchange the one expected, a missed one another
abbrev pub RecordsFound : EntryStep → ℕ → Type 0
RecordsFound (Looked w) n = w ≡ n
RecordsFound (ReadBody h w) n = w ≡ n
RecordsFound (Pinned d e y) n = e ≡ n
RecordsFound (PinMissed d e f w) n = (w ≡ n) × (w ≢ e)
RecordsFound (Changed c e f y) n = e ≡ n
RecordsFound (ChangeMissed c e f w) n = (w ≡ n) × (w ≢ e)
RecordsFound (Unpinned d g) n = Unit {0}
RecordsFound (StoredBody h w) n = Unit {0}

-- the step records that it found this number
abbrev pub RecordsWord : SeatStep → ℕ → Type 0
RecordsWord (Entry t r m) n = RecordsFound m n
RecordsWord (Header t (header.Looked w)) n = w ≡ n
RecordsWord (Header t (header.Stored w)) n = Unit {0}
RecordsWord (Frame t f m) n = Unit {0}
RecordsWord (Flag f m) n = Unit {0}

-- a step of the domain i on an entry of the domain t stores or changes only if i is t
abbrev pub IsByOwner : ℕ → ℕ → EntryStep → Type 0
IsByOwner i t (StoredBody h n) = i ≡ t
IsByOwner i t (Changed c e n y) = i ≡ t
IsByOwner i t _ = Unit {0}

-- a step of the domain i on the header of the domain t stores only if i is t
abbrev pub HeaderByOwner : ℕ → ℕ → HeaderStep → Type 0
HeaderByOwner i t (header.Stored n) = i ≡ t
HeaderByOwner i t (header.Looked n) = Unit {0}

-- a step of the domain i stores or changes only what the domain owns
abbrev pub IsOwners : ℕ → SeatStep → Type 0
IsOwners i (Entry t r m) = IsByOwner i t m
IsOwners i (Header t m) = HeaderByOwner i t m
IsOwners i (Frame t f m) = Unit {0}
IsOwners i (Flag f m) = Unit {0}

-- the owner's steps on the entry, from those of each seat
abbrev pub owner_steps : ℕ → List (List EntryStep) → List EntryStep
owner_steps t hs = slice_index_or hs t []

-- an entry of the core: its record, its body words, and the live pins of each domain
pub record EntryState : Type 0 where
  pub current : EntryRecord
  pub first : ℕ
  pub second : ℕ
  pub live : List (List LivePin)

-- an entry of the domain t as the steps of each seat on it leave it, if it began at the generation g
abbrev pub entry_by : ℕ → ℕ → List (List EntryStep) → EntryState
entry_by g t hs =
    record {
      current = last_record g (owner_steps t hs);
      first = stored_body First (owner_steps t hs);
      second = stored_body Second (owner_steps t hs);
      live = map live_pins hs;
    }

-- the steps of a history on the entry r of the domain t, for each of the n positions starting at i
abbrev pub parts_on : ℕ → ℕ → StepHistory → ℕ → ℕ → List (List EntryStep)
parts_on t r h i zero = []
parts_on t r h i (suc n) = entry_steps t r (part_of i h) ∷ parts_on t r h (suc i) n

-- the entry r of the domain t that a history makes
abbrev pub entry_made : Layout → ℕ → ℕ → StepHistory → EntryState
entry_made k t r h = entry_by k.first t (parts_on t r h 0 k.domains)

-- the header of the domain t that a history makes
abbrev pub header_made : Layout → ℕ → StepHistory → ℕ
header_made k t h = stored_header (slice_index k.headers t) (header_steps t (part_of t h))

-- a step that takes a pin takes it of this record, which is an entry
abbrev pub IsOfRecord : EntryRecord → EntryStep → Type 0
IsOfRecord x (Pinned d e y) = (y ≡ x) × (y.entry ≢ Invalid)
IsOfRecord x _ = Unit {0}

-- a step that takes a pin takes it of the last record of its entry, as the steps before it make it
abbrev pub PinsLast : Layout → StepHistory → SeatStep → Type 0
PinsLast k h (Entry t r m) = IsOfRecord (entry_made k t r h).current m
PinsLast k h (Header t m) = Unit {0}
PinsLast k h (Frame t f m) = Unit {0}
PinsLast k h (Flag f m) = Unit {0}

-- each step of the history found the word that the steps before it make, stored or changed only what its seat owns, and
-- took a pin only of the last record
abbrev pub IsTrue : Layout → StepHistory → Type 0
IsTrue k [] = Unit {0}
IsTrue k (p ∷ h) =
    RecordsWord p.1 (word_after k h (word_place_of p.1)) × IsOwners p.0 p.1 × PinsLast k h p.1 × IsTrue k h

-- the history h has led to words and views: each seat has its part of it and knows it up to its own last step, each
-- step is of one of the seats, and the words are those that it makes
pub record HasLedTo {S : Type 0} (k : Layout) (h : StepHistory) (s : State S View) : Type 0 where
  pub parts : (j : ℕ) (v : View) → get_elem? s.views j ≡ some v → (v.steps ≡ part_of j h) × (v.past ≡ up_to j h)
  pub no_other : (j : ℕ) → length s.views ≤ j → part_of j h ≡ []
  pub words : (i : ℕ) → i < k.domains * DOMAIN_WORDS → slice_index s.words i ≡ word_after k h i
  pub true_steps : IsTrue k h
