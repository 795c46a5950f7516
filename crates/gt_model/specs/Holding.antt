-- Pins that are held, and the access paths by them to frames.
use Rattle.std.specs.Prelude.{ℕ, List, [], ◌∷◌, ◌++◌, ◌≡◌}
use Rattle.gt_model.specs.declared.entry.Entry.{Entry}
use Rattle.gt_model.specs.declared.entry.Entry.TheVariants.{Via}
use Rattle.gt_model.specs.declared.held.AccessPath.{AccessPath}
use Rattle.gt_model.specs.declared.held.AccessPath.TheVariants.{Own, Direct, Through}
use Rattle.gt_model.specs.declared.held.CallPins.{CallPins}
use Rattle.gt_model.specs.declared.held.HeldPin.{HeldPin}
use Rattle.gt_types.specs.declared.DomId.{DomId}
pub use Rattle.gt_model.specs.Entries.{frame_of}

-- the pins of an access path, the last one first
abbrev pub held_by : AccessPath → List HeldPin
held_by Own = []
held_by (Direct p) = p ∷ []
held_by (Through via p) = p ∷ via ∷ []

-- the pins that a call holds, the last one first: those of its destination were taken after those of its source
abbrev pub last_first : CallPins → List HeldPin
last_first pins = held_by pins.dest ++ held_by pins.source

-- no pins
abbrev pub no_pins : CallPins
no_pins = record { source = Own; dest = Own }

-- the owner of the frame that an access path leads to
abbrev pub owner_by : DomId → AccessPath → DomId
owner_by caller Own = caller
owner_by caller (Direct p) = p.dom
owner_by caller (Through via p) = p.dom

-- the number of the frame that an access path leads to; `own` if it leads to one of the caller's frames
abbrev pub frame_by : ℕ → AccessPath → ℕ
frame_by own Own = own
frame_by own (Direct p) = frame_of p.entry
frame_by own (Through via p) = frame_of p.entry

-- the access path without its last pin
abbrev pub shortened : AccessPath → AccessPath
shortened Own = Own
shortened (Direct p) = Own
shortened (Through via p) = Direct via

-- the pins without the last one: those of the destination come off first
abbrev pub without_last : CallPins → CallPins
without_last pins = drop_last pins.source pins.dest
  where
    drop_last : AccessPath → AccessPath → CallPins
    drop_last source Own = record { source = shortened source; dest = Own }
    drop_last source dest = record { source = source; dest = shortened dest }

-- the entry leads to the pinned one
abbrev pub GivesHeld : Entry → HeldPin → Type 0
GivesHeld (Via dom ro dom2 gref) p = (p.dom ≡ dom2) × (p.gref ≡ gref)
GivesHeld entry p = ⊥
