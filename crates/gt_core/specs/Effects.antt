-- What a step does to the states of the domains: the code's own representation. It is in specs/ because private
-- contracts cite it.
use Rattle.std.specs.Prelude.{ℕ, List, Option, Some, None, if◌then◌else◌, ◌+◌, ◌-◌, ◌%◌, min, is_some, ◌≡◌, slice_set}
use Rattle.gt_core.specs.Prelude.{DomId, MAX_PINS, Read, Write, Handle, PinHolder, EntryChange, Step, Pin, Unpin}
use Rattle.gt_core.specs.Prelude.{StoreBody, StoreHeader, Exchange, Observation, Taken, HeldPin, PinCounts}
use Rattle.gt_core.specs.Prelude.{CountsChange, Pinned, Unpinned, Stored, OpenCall, HandleMap, value_of, count_of}
use Rattle.gt_core.specs.Prelude.{Updates}
use Rattle.gt_model.specs.declared.change.BodyWord.TheVariants as body_words
use Rattle.gt_model.specs.declared.request.PinHolder.TheVariants as holders
use Rattle.gt_core.specs.Rows.{changed_at}
use Rattle.gt_core.specs.States.{State, changed_in}
pub use Rattle.gt_calls.specs.Known.{own_after}

-- one pin more or less of a kind, or another body word
abbrev pub slot_after : CountsChange → PinCounts → PinCounts
slot_after (Pinned Read) slot = record slot { reads = min (slot.reads + 1) MAX_PINS }
slot_after (Pinned Write) slot = record slot { writes = min (slot.writes + 1) MAX_PINS }
slot_after (Unpinned Read) slot = record slot { reads = slot.reads - 1 }
slot_after (Unpinned Write) slot = record slot { writes = slot.writes - 1 }
slot_after (Stored body_words.Second word) slot = record slot { second = word }
slot_after (Stored body_words.First word) slot = record slot { first = word }

-- the state after a change of the pins or a body word of entry r
abbrev pub with_slot : ℕ → CountsChange → State → State
with_slot r change x = record x { slots = changed_at r (slot_after change) x.slots }

-- the state after an owner's change of entry r
abbrev pub with_own : ℕ → EntryChange → State → State
with_own r change x = record x { own = changed_at r (own_after change) x.own }

-- the state with another header of its table, as far as its word has room
abbrev pub with_header : ℕ → ℕ → State → State
with_header version frames x = record x { header = record { version = version % 4; frames = frames % 256 } }

-- the state with this open call, or none
abbrev pub with_underway : Option OpenCall → State → State
with_underway underway x = record x { underway = underway }

-- the state with this open call, and the bytes passed to it
abbrev pub with_open_call : OpenCall → List ℕ → State → State
with_open_call call given x = record x { underway = Some call; given = given }

-- the new handles are the old ones and one more, with the next serial, which names this mapping
pub record Adds (old new : HandleMap HeldPin) (handle : Handle) (m : HeldPin) : Type 0 where
  pub serial : handle.serial ≡ old.given
  pub fresh : value_of old handle ≡ None
  pub given : new.given ≡ old.given + 1
  pub updates : Updates old new handle (Some m)
  pub count : count_of new ≡ count_of old + 1

-- the state with these mappings, after the call that made one is answered
abbrev pub with_mapping : HandleMap HeldPin → State → State
with_mapping mappings x = record x { mappings = mappings; underway = None }

-- the handles without the mapping under this handle, if there is one
abbrev pub handle_taken : Handle → HandleMap HeldPin → HandleMap HeldPin
handle_taken handle mappings =
    if is_some (value_of mappings handle) then record mappings { slots = slice_set mappings.slots handle.key None }
    else mappings

-- the state after the holder of a pin released it: a mapping goes, an open call loses nothing here
abbrev pub without_holder : PinHolder → State → State
without_holder (holders.Mapping handle) x = record x { mappings = handle_taken handle x.mappings }
without_holder (holders.Leg number) x = x

-- the states after a step of domain d that saw this
abbrev pub applied : DomId → Step → Observation → List State → List State
applied d (Pin p) Taken xs = changed_in p.dom.0 (with_slot p.gref.0 (Pinned p.dir)) xs
applied d (Unpin p holder) seen xs =
    changed_in d.0 (without_holder holder) (changed_in p.dom.0 (with_slot p.gref.0 (Unpinned p.dir)) xs)
applied d (StoreBody gref body_word word) seen xs = changed_in d.0 (with_slot gref.0 (Stored body_word word)) xs
applied d (StoreHeader version frames) seen xs = changed_in d.0 (with_header version frames) xs
applied d (Exchange gref looked change) Taken xs = changed_in d.0 (with_own gref.0 change) xs
applied d step seen xs = xs
