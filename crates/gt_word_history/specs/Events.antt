-- How each event of the core changes the state that a history of steps makes.
use Rattle.std.specs.Prelude.{◌≡◌, ℕ, cond, ◌==◌, ◌&&◌, List, [], ◌∷◌, slice_index_or, slice_set}
use Rattle.atomic_table.specs.Table.{State}
use Rattle.gt_model.specs.declared.change.BodyWord.TheVariants.{First, Second}
use Rattle.gt_word_history.specs.declared.view.EntryStep.{EntryStep}
use Rattle.gt_word_history.specs.declared.view.EntryStep.TheVariants.{Looked, ReadBody, Pinned, PinMissed, Unpinned}
use Rattle.gt_word_history.specs.declared.view.EntryStep.TheVariants.{StoredBody, Changed, ChangeMissed}
use Rattle.gt_word_history.specs.declared.view.HeaderStep.{HeaderStep}
use Rattle.gt_word_history.specs.declared.view.HeaderStep.TheVariants as header
use Rattle.gt_word_history.specs.declared.view.SeatStep.{SeatStep}
use Rattle.gt_word_history.specs.declared.view.SeatStep.TheVariants.{Entry, Flag, Frame, Header}
use Rattle.gt_word_history.specs.declared.view.View.{View}
use Rattle.gt_word_history.specs.Views.{LivePin, without_pin}
use Rattle.gt_word_history.specs.History.{EntryState, StepHistory, Moment, PinsLast, RecordsWord, entry_made}
use Rattle.gt_word_history.specs.History.{header_made, word_place_of, word_after}
pub use Rattle.gt_word_history.specs.History.{HeaderByOwner, IsByOwner}
use Rattle.gt_word_history.specs.Rule.{Layout, Stands}

-- the live pins of the domain i
abbrev pub live_of : ℕ → EntryState → List LivePin
live_of i x = slice_index_or x.live i []

-- an entry after a step of the domain i on it: a taken pin is one more, a released one is one less, a store sets a body
-- word, a taken exchange sets the record, and any other step leaves it
abbrev pub entry_after : ℕ → EntryStep → EntryState → EntryState
entry_after i (Looked n) x = x
entry_after i (ReadBody h n) x = x
entry_after i (PinMissed d e f n) x = x
entry_after i (ChangeMissed c e f n) x = x
entry_after i (Pinned d e y) x = record x { live = slice_set x.live i ((d, y) ∷ live_of i x) }
entry_after i (Unpinned d g) x = record x { live = slice_set x.live i (without_pin d g (live_of i x)) }
entry_after i (StoredBody First n) x = record x { first = n }
entry_after i (StoredBody Second n) x = record x { second = n }
entry_after i (Changed c e n y) x = record x { current = y }

-- a header after a step on it: a store sets it, and a look leaves it
abbrev pub header_after : HeaderStep → ℕ → ℕ
header_after (header.Looked n) w = w
header_after (header.Stored n) w = n

-- the entry r of the domain t after a step of the domain i: only a step on it changes it
abbrev pub event_on_entry : ℕ → SeatStep → ℕ → ℕ → EntryState → EntryState
event_on_entry i (Entry d q m) t r x = cond ((d == t) && (q == r)) (entry_after i m x) x
event_on_entry i (Header d m) t r x = x
event_on_entry i (Frame d q m) t r x = x
event_on_entry i (Flag f m) t r x = x

-- the header of the domain t after a step: only a step on it changes it
abbrev pub event_on_header : SeatStep → ℕ → ℕ → ℕ
event_on_header (Header d m) t w = cond (d == t) (header_after m w) w
event_on_header (Entry d q m) t w = w
event_on_header (Frame d q m) t w = w
event_on_header (Flag f m) t w = w

-- the step x of the domain i takes each entry and header that the steps before it make to what the event of the core
-- gives
pub record Happens (k : Layout) (i : ℕ) (x : SeatStep) (past : StepHistory) : Type 0 where
  pub entries : (t r : ℕ) → entry_made k t r ((i, x) ∷ past) ≡ event_on_entry i x t r (entry_made k t r past)
  pub headers : (t : ℕ) → header_made k t ((i, x) ∷ past) ≡ event_on_header x t (header_made k t past)

-- the step of the domain i was taken at this moment: words and views showed a state before it, it records the number
-- that was there, takes a pin only of the last record, and takes each entry and header to what the event of the core
-- gives
pub record TookPlace (k : Layout) (i : ℕ) (m : Moment) : Type 0 where
  pub stood : (z : State (Unit {0}) View) × Stands k m.0 z
  pub recorded : RecordsWord m.1 (word_after k m.0 (word_place_of m.1))
  pub of_last : PinsLast k m.0 m.1
  pub happens : Happens k i m.1 m.0
