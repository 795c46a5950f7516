-- What the steps of one seat imply. Lists begin with the last item.
use Rattle.std.specs.Prelude.{◌≡◌, ◌⊎◌, ℕ, ◌+◌, Bool, true, false, cond, IsSome, ◌==◌, ◌&&◌, List, [], ◌∷◌, Option}
use Rattle.std.specs.Prelude.{Some, None, slice_index, count_by, nat_le}
use Rattle.gt_word_history.specs.Prelude.{Dir, Read, Write, BodyWord, First, Second, EntryRecord, EntryStep, Looked}
use Rattle.gt_word_history.specs.Prelude.{ReadBody, Pinned, PinMissed, Unpinned, StoredBody, Changed, ChangeMissed}
use Rattle.gt_word_history.specs.Prelude.{HeaderStep, SeatStep, View, entry_of, control_of, header_of, kind_of, Header}
use Rattle.gt_model.specs.declared.control.EntryKind.TheVariants as kinds
use Rattle.gt_model.specs.declared.entry.Entry.TheVariants as entries
use Rattle.gt_word_history.specs.declared.view.HeaderStep.TheVariants as header
use Rattle.gt_word_history.specs.declared.view.SeatStep.TheVariants.{Entry, Flag, Frame}
use Rattle.gt_word_history.specs.declared.view.SeatStep.TheVariants as seat_steps
use Rattle.gt_word_history.specs.Controls.{generation_of}

-- a is in the list
abbrev pub IsAmong : {A : Type 0} → A → List A → Type 0
IsAmong a [] = ⊥
IsAmong a (x ∷ xs) = (a ≡ x) ⊎ IsAmong a xs

-- the steps of a list that are on the entry r of the domain t
abbrev pub entry_steps : ℕ → ℕ → List SeatStep → List EntryStep
entry_steps t r [] = []
entry_steps t r (Entry d q m ∷ xs) = cond ((d == t) && (q == r)) (m ∷ entry_steps t r xs) (entry_steps t r xs)
entry_steps t r (seat_steps.Header d m ∷ xs) = entry_steps t r xs
entry_steps t r (Frame d q m ∷ xs) = entry_steps t r xs
entry_steps t r (Flag f m ∷ xs) = entry_steps t r xs

-- the steps of a view on the entry r of the domain t
abbrev pub steps_on : ℕ → ℕ → View → List EntryStep
steps_on t r v = entry_steps t r v.steps

-- the steps of a list that are on the header of the domain t
abbrev pub header_steps : ℕ → List SeatStep → List HeaderStep
header_steps t [] = []
header_steps t (seat_steps.Header d m ∷ xs) = cond (d == t) (m ∷ header_steps t xs) (header_steps t xs)
header_steps t (Entry d q m ∷ xs) = header_steps t xs
header_steps t (Frame d q m ∷ xs) = header_steps t xs
header_steps t (Flag f m ∷ xs) = header_steps t xs

-- the steps of a view on the header of the domain t
abbrev pub steps_on_header : ℕ → View → List HeaderStep
steps_on_header t v = header_steps t v.steps

-- the view after one more step, taken after the history past
abbrev pub with_step : List (ℕ × SeatStep) → SeatStep → View → View
with_step past x v = record v { steps = x ∷ v.steps; past = (v.position, x) ∷ past }

-- a live pin of an entry: its kind, and the generation and entry that it was taken from
abbrev pub LivePin : Type 0
LivePin = Dir × EntryRecord

-- both directions are the same
abbrev pub is_same_dir : Dir → Dir → Bool
is_same_dir Read Read = true
is_same_dir Write Write = true
is_same_dir _ _ = false

-- the pin has that kind and generation
abbrev pub is_pin : Dir → ℕ → LivePin → Bool
is_pin d g p = is_same_dir d p.0 && (g == p.1.generation)

-- the list without its first pin of that kind and generation
abbrev pub without_pin : Dir → ℕ → List LivePin → List LivePin
without_pin d g [] = []
without_pin d g (p ∷ ps) = cond (is_pin d g p) ps (p ∷ without_pin d g ps)

-- the number of pins of that kind and generation
abbrev pub pins_like : Dir → ℕ → List LivePin → ℕ
pins_like d g ps = count_by (is_pin d g) ps

-- the pins that a seat has of an entry: those taken and not released
abbrev pub live_pins : List EntryStep → List LivePin
live_pins [] = []
live_pins (Pinned d _ x ∷ ms) = (d, x) ∷ live_pins ms
live_pins (Unpinned d g ∷ ms) = without_pin d g (live_pins ms)
live_pins (_ ∷ ms) = live_pins ms

-- 1 if both kinds are the same, else 0
abbrev pub weight : Dir → Dir → ℕ
weight Read Read = 1
weight Write Write = 1
weight _ _ = 0

-- the number of pins of this kind
abbrev pub pin_count : Dir → List LivePin → ℕ
pin_count d [] = 0
pin_count d (p ∷ ps) = weight d p.0 + pin_count d ps

-- the number of pins of this kind that are of the generation g or of an earlier one
abbrev pub pins_until : Dir → ℕ → List LivePin → ℕ
pins_until d g [] = 0
pins_until d g (p ∷ ps) = cond (nat_le p.1.generation g) (weight d p.0) 0 + pins_until d g ps

-- an invalid entry at this generation, as each entry begins
abbrev pub invalid_at : ℕ → EntryRecord
invalid_at g = record { generation = g; entry = entries.Invalid }

-- the last record of the owner's list, whose first record is invalid at the generation g
abbrev pub last_record : ℕ → List EntryStep → EntryRecord
last_record g [] = invalid_at g
last_record g (Changed _ _ _ x ∷ ms) = x
last_record g (_ ∷ ms) = last_record g ms

-- the records before the last one
abbrev pub earlier_records : ℕ → List EntryStep → List EntryRecord
earlier_records g [] = []
earlier_records g (Changed _ _ _ x ∷ ms) = last_record g ms ∷ earlier_records g ms
earlier_records g (_ ∷ ms) = earlier_records g ms

-- the owner's list of records, the last one first
abbrev pub own : ℕ → List EntryStep → List EntryRecord
own g ms = last_record g ms ∷ earlier_records g ms

-- the words from which the owner exchanged the control word of its entry, the last one first
abbrev pub exchanged : List EntryStep → List ℕ
exchanged [] = []
exchanged (Changed _ e _ _ ∷ ms) = e ∷ exchanged ms
exchanged (_ ∷ ms) = exchanged ms

-- both are the same body word
abbrev pub is_body_word : BodyWord → BodyWord → Bool
is_body_word First First = true
is_body_word Second Second = true
is_body_word _ _ = false

-- the body word that the owner stored last, 0 if it stored none
abbrev pub stored_body : BodyWord → List EntryStep → ℕ
stored_body h [] = 0
stored_body h (StoredBody k v ∷ ms) = cond (is_body_word h k) v (stored_body h ms)
stored_body h (_ ∷ ms) = stored_body h ms

-- the header that the owner stored last, w if it stored none
abbrev pub stored_header : ℕ → List HeaderStep → ℕ
stored_header w [] = w
stored_header w (header.Stored n ∷ ms) = n
stored_header w (header.Looked n ∷ ms) = stored_header w ms

-- the control word seen last, and the body values read since
pub record Seen : Type 0 where
  pub word : ℕ
  pub first : Option ℕ
  pub second : Option ℕ

-- a control word just seen, with no body value read since
abbrev pub seen_word : ℕ → Option Seen
seen_word w = Some (record { word = w; first = None; second = None })

-- what was seen, with one more body value read; nothing if no control word was seen
abbrev pub with_body : BodyWord → ℕ → Option Seen → Option Seen
with_body h v None = None
with_body First v (Some s) = Some (record s { first = Some v })
with_body Second v (Some s) = Some (record s { second = Some v })

-- what a seat saw of an entry: the last control word that a look or a missed
-- exchange found, and the body values read since
abbrev pub seen : List EntryStep → Option Seen
seen [] = None
seen (Looked w ∷ ms) = seen_word w
seen (PinMissed _ _ _ w ∷ ms) = seen_word w
seen (ChangeMissed _ _ _ w ∷ ms) = seen_word w
seen (ReadBody h v ∷ ms) = with_body h v (seen ms)
seen (_ ∷ ms) = seen ms

-- the value read, or 0
abbrev pub value_or_zero : Option ℕ → ℕ
value_or_zero None = 0
value_or_zero (Some x) = x

-- the record that was seen: the generation and entry that the words encode
abbrev pub record_seen : Seen → EntryRecord
record_seen s =
    record {
      generation = generation_of s.word;
      entry = entry_of (control_of s.word) (value_or_zero s.first) (value_or_zero s.second);
    }

-- the body words were read since the look: for a sub-page both
abbrev pub HasBody : Seen → Type 0
HasBody s = IsSome s.first × (kind_of s.word ≡ kinds.Sub → IsSome s.second)

-- what was seen, or zeros if nothing was
abbrev pub seen_or_none : Option Seen → Seen
seen_or_none None = record { word = 0; first = None; second = None }
seen_or_none (Some s) = s

-- what a seat saw last of an entry
abbrev pub last_seen : ℕ → ℕ → View → Seen
last_seen t r v = seen_or_none (seen (steps_on t r v))

-- the owner's last record of its own entry r
abbrev pub last_of : ℕ → View → EntryRecord
last_of r v = last_record v.first (steps_on v.position r v)

-- the owner's list of records of its own entry r
abbrev pub own_list : ℕ → View → List EntryRecord
own_list r v = own v.first (steps_on v.position r v)

-- the header of the seat's own domain: the last one that it stored, or the one that it began with
abbrev pub own_header : View → ℕ
own_header v = stored_header (slice_index v.headers v.position) (steps_on_header v.position v)

-- the same as a header
abbrev pub own_table : View → Header
own_table v = header_of (own_header v)

-- the body word that the seat stored last of its own entry r
abbrev pub own_body : ℕ → BodyWord → View → ℕ
own_body r h v = stored_body h (steps_on v.position r v)
