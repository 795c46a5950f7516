-- The rule of the table: between any two steps words and views show a state of the core.
use Rattle.std.specs.Prelude.{◌≡◌, ◌≢◌, ◌⊎◌, ℕ, ◌+◌, ◌*◌, ◌<◌, ◌≤◌, true, not, ◌==◌, List, [], ◌∷◌, map, length}
use Rattle.std.specs.Prelude.{slice_index, slice_index_or, position, unwrap_or}
use Rattle.gt_word_history.specs.Prelude.{some, get_elem?, State, IsEntry, is_read_only, with_ro, IsSpelled, word_of}
use Rattle.gt_word_history.specs.Prelude.{header_word, Header, Invalid, Dir, Read, Write, DomId, Config}
use Rattle.gt_word_history.specs.Prelude.{DomainConfig, MAX_TABLE_FRAMES, TABLE_ENTRIES, DOMAIN_WORDS, EntryStep, First}
use Rattle.gt_word_history.specs.Prelude.{Second, HeaderStep, EntryRecord, View}
use Rattle.gt_word_history.specs.Controls.{generation_of, pins_in}
use Rattle.gt_word_history.specs.History.{HasLedTo, StepHistory}
pub use Rattle.gt_word_history.specs.History.{Layout, header_place, initial, owner_steps, place}
use Rattle.gt_word_history.specs.Views.{IsAmong, LivePin, earlier_records, exchanged, last_record, pin_count, live_pins}
use Rattle.gt_word_history.specs.Views.{pins_until}
use Rattle.gt_word_history.specs.Views.{steps_on, steps_on_header, stored_body, stored_header}

-- the header of a domain at the start
abbrev pub first_header : DomainConfig → Header
first_header d = record { version = d.version; frames = d.table_frames }

-- the run of a configuration
abbrev pub layout_of : Config → Layout
layout_of c =
    record {
      ids = map (λ d. d.id) c.domains.items;
      domains = length c.domains.items;
      first = c.first_gen;
      headers = map (λ d. header_word (first_header d)) c.domains.items;
    }

-- the position of a domain in the run, or the number of domains if the run does not have it
abbrev pub position_in : List DomId → DomId → ℕ
position_in xs d = unwrap_or (position (λ x. x.0 == d.0) xs) (length xs)

-- the number of the domain at a position
abbrev pub id_at : List DomId → ℕ → DomId
id_at xs t = slice_index_or xs t (record { 0 = 0 })

-- each part of the record is in its range
abbrev pub IsRecord : EntryRecord → Type 0
IsRecord x = IsEntry x.entry × (x.generation < 1048576)

-- x is the record y revoked or withdrawn: invalid, of the same generation
abbrev pub IsRevocation : EntryRecord → EntryRecord → Type 0
IsRevocation x y = (x.entry ≡ Invalid) × (x.generation ≡ y.generation)

-- x is an entry of the next generation: published after an invalid record, or the record before with the other readonly
abbrev pub IsNextEntry : EntryRecord → EntryRecord → Type 0
IsNextEntry x y =
    (x.generation ≡ y.generation + 1) × (x.entry ≢ Invalid)
    × ((y.entry ≡ Invalid) ⊎ (x.entry ≡ with_ro (not (is_read_only y.entry)) y.entry))

-- the record x may come right after y
abbrev pub MayFollow : EntryRecord → EntryRecord → Type 0
MayFollow x y = IsRevocation x y ⊎ IsNextEntry x y

-- the owner's list is lawful, with x the last record before the earlier ones: the first record is invalid, and each
-- other one may come right after the one before it
abbrev pub IsLawful : EntryRecord → List EntryRecord → Type 0
IsLawful x [] = IsRecord x × (x.entry ≡ Invalid)
IsLawful x (y ∷ ys) = IsRecord x × MayFollow x y × IsLawful y ys

-- the pins of a kind on an entry, added up seat by seat
abbrev pub total_pins : Dir → List (List EntryStep) → ℕ
total_pins d [] = 0
total_pins d (h ∷ hs) = pin_count d (live_pins h) + total_pins d hs

-- the pins of a kind on an entry that are of the generation g or of an earlier one, added up seat by seat
abbrev pub total_until : Dir → ℕ → List (List EntryStep) → ℕ
total_until d g [] = 0
total_until d g (h ∷ hs) = pins_until d g (live_pins h) + total_until d g hs

-- the words of one entry, and the steps of each seat on it, show the last record x, after the records xs
pub record ShowsRecord (x : EntryRecord) (xs : List EntryRecord) (word a b : ℕ)
    (hs : List (List EntryStep)) : Type 0 where
  -- the control word encodes the last record, and its counts are the sums of the views' pins
  pub spelled : word ≡ word_of x.entry x.generation (total_pins Read hs) (total_pins Write hs)
  pub in_range : (total_pins Read hs < 4096) × (total_pins Write hs < 4096)
  pub body : IsSpelled x.entry a b
  pub lawful : IsLawful x xs
  -- a read-only last record has no write pins in any view
  pub unwritten : is_read_only x.entry ≡ true → total_pins Write hs ≡ 0
  -- each pin is of a record of the owner's list, which is an entry
  pub pinned : (i : ℕ) (h : List EntryStep) → get_elem? hs i ≡ some h → (p : LivePin) → IsAmong p (live_pins h)
      → IsAmong p.1 (x ∷ xs) × (p.1.entry ≢ Invalid)

-- the owner's list has moved on from the word e to the last record x: no more pins are taken of the record of that word
-- or of an earlier one, so at most as many are left as the word counts
pub record HasGoneOn (x : EntryRecord) (hs : List (List EntryStep)) (e : ℕ) : Type 0 where
  pub not_later : generation_of e ≤ x.generation
  pub earlier : x.entry ≢ Invalid → generation_of e < x.generation
  pub left : (d : Dir) → total_until d (generation_of e) hs ≤ pins_in d e

-- words and steps show the last record of the owner t, after its earlier ones,
-- and the body words are those that it stored last
pub record ShowsEntry (g t word a b : ℕ) (hs : List (List EntryStep)) : Type 0 where
  pub record_shown : ShowsRecord (last_record g (owner_steps t hs)) (earlier_records g (owner_steps t hs)) word a b hs
  pub first : a ≡ stored_body First (owner_steps t hs)
  pub second : b ≡ stored_body Second (owner_steps t hs)
  -- each word that the owner exchanged from counts the pins that are left of its record and of earlier ones
  pub gone_on : (e : ℕ) → IsAmong e (exchanged (owner_steps t hs)) → HasGoneOn (last_record g (owner_steps t hs)) hs e

-- the header has version 1 or 2, and a number of table frames within the limit (versions: grant_table.h; the limit:
-- this project's own)
pub record IsKeptHeader (h : Header) : Type 0 where
  pub version : (h.version ≡ 1) ⊎ (h.version ≡ 2)
  pub some : 0 < h.frames
  pub few : h.frames ≤ MAX_TABLE_FRAMES

-- the word encodes such a header
abbrev pub IsHeader : ℕ → Type 0
IsHeader w = (h : Header) × IsKeptHeader h × (w ≡ header_word h)

-- the header of the domain t, by the steps of each seat on it
abbrev pub header_now : Layout → ℕ → List (List HeaderStep) → ℕ
header_now k t hs = stored_header (slice_index k.headers t) (slice_index_or hs t [])

module _ {S : Type 0} where
  -- words and views show a state of the core, to which the history h has led
  pub record Stands (k : Layout) (h : StepHistory) (s : State S View) : Type 0 where
    pub wide : length s.words ≡ k.domains * DOMAIN_WORDS
    -- the first seat deals the others, and counts them
    pub dealt : ((v : View) → get_elem? s.views 0 ≡ some v → v.dealt ≡ length s.views) × (length s.views ≤ k.domains)
        × (0 < length s.views)
    -- the view of each domain is at its position
    pub seats : (j : ℕ) (v : View) → get_elem? s.views j ≡ some v
        → (v.position ≡ j) × (v.first ≡ k.first) × (v.headers ≡ k.headers)
    pub entries : (t r : ℕ) → t < k.domains → r < TABLE_ENTRIES
        → ShowsEntry k.first t (slice_index s.words (place t r 0)) (slice_index s.words (place t r 1))
        (slice_index s.words (place t r 2)) (map (steps_on t r) s.views)
    pub headers : (t : ℕ) → t < k.domains
        → (slice_index s.words (header_place t) ≡ header_now k t (map (steps_on_header t) s.views))
        × IsHeader (slice_index s.words (header_place t))
    -- the history has led here
    pub led_here : HasLedTo k h s

-- before each step of the history words and views showed a state, to which the steps before it had led
abbrev pub HasStood : Type 0 → Layout → StepHistory → Type 0
HasStood S k [] = Unit {0}
HasStood S k (p ∷ h) = ((z : State S View) × Stands k h z) × HasStood S k h

module _ {S : Type 0} where
  -- words and views show a state of the core, and did before each step of their history
  pub record Shows (k : Layout) (s : State S View) : Type 0 where
    pub history : StepHistory
    pub now : Stands k history s
    pub stood : HasStood S k history
