-- The rule of a table with the words of all entries, and with a lock and a slot for each frame.
use Rattle.std.specs.Prelude.{◌≡◌, ◌≢◌, ℕ, ◌+◌, ◌*◌, ◌<◌, ◌⊎◌, List, [], ◌∷◌, ◌++◌, length, map}
use Rattle.std.specs.Prelude.{take, slice_index, Option, Some}
use mathlib.Core.Option.{Option as Maybe, some, none}
use lib.ListN.{get_elem?}
use Rattle.atomic_table.specs.Table.{State}
use Rattle.gt_frames.specs.Frames.{FrameState}
use Rattle.gt_word_history.specs.declared.view.Outlook.{Outlook}
use Rattle.gt_word_history.specs.Flags.{IsRaised}
use Rattle.gt_word_history.specs.History.{Layout, StepHistory, header_place}
use Rattle.gt_word_history.specs.Joining.{TableHolds}
use Rattle.gt_word_history.specs.Rule.{layout_of}
use Rattle.gt_types.specs.declared.config.Config.{Config}
use Rattle.gt_types.specs.declared.config.DomainConfig.{DomainConfig}
use Rattle.std.specs.List.{range_with_len}
use Rattle.gt_word_history.specs.Views.{IsAmong}
use Rattle.gt_shared_table.specs.declared.rule.FrameHolder.{FrameHolder}
use Rattle.gt_shared_table.specs.declared.rule.FrameSlot.{FrameSlot}
use Rattle.atomic_table.specs.Seated.{TableId}
use Rattle.gt_shared_table.specs.Bytes.{AreTrueSteps, frame_made}

-- a frame: the position of its owner's domain, and its number there
abbrev pub FrameAt : Type 0
FrameAt = ℕ × ℕ

abbrev pub frame_of_owner : ℕ → ℕ → FrameAt
frame_of_owner t f = (t, f)

-- the run, and the frame of each slot
pub record Places : Type 0 where
  pub layout : Layout
  pub names : List FrameAt

-- the index of a slot's lock among the words: after the words of all entries, eight words apart
abbrev pub lock_place : Places → ℕ → ℕ
lock_place b q = header_place b.layout.domains + 8 * q

-- the index of a flag's word: after the locks of all slots
abbrev pub flag_place : Places → ℕ → ℕ
flag_place b f = header_place b.layout.domains + 8 * length b.names + f

abbrev pub Cell : Type 0
Cell = Option FrameState

-- the slot q is one of these
abbrev pub Has : ℕ → List (ℕ × FrameState) → Type 0
Has q [] = ⊥
Has q (p ∷ ps) = (p.0 ≡ q) ⊎ Has q ps

abbrev pub AreOnce : List (ℕ × FrameState) → Type 0
AreOnce [] = Unit {0}
AreOnce (p ∷ ps) = (Has p.0 ps → ⊥) × AreOnce ps

-- the slot has this frame
abbrev pub IsNamed : Places → ℕ → FrameAt → Type 0
IsNamed b q n = get_elem? b.names q ≡ some n

-- the frame of a slot
abbrev pub slot_frame : FrameSlot → FrameAt
slot_frame s = (s.owner, s.number)

-- a slot of the table: its lock is at its index, and it has the frame of this name
abbrev pub IsSlotOf : Places → TableId → FrameSlot → Type 0
IsSlotOf b z s = (s.lock ≡ lock_place b s.index) × (s.lock < z.words) × IsNamed b s.index (slot_frame s)

-- the frame that a history makes
abbrev pub made : Places → StepHistory → FrameAt → FrameState
made b h n = frame_made b.layout n.0 n.1 h

-- a flag whose word is not 0 was raised
abbrev pub FlagsAreKept : Places → StepHistory → List ℕ → Type 0
FlagsAreKept b h words = (f : ℕ) → slice_index words (flag_place b f) ≢ 0 → IsRaised f h

-- a frame in its slot is what the history makes; a frame that is out is held by one seat, with the contents that it
-- had; a flag is raised only by a step
pub record FramesAreKept (b : Places) (h : StepHistory) (s : State Cell FrameHolder) : Type 0 where
  pub truth : AreTrueSteps b.layout h
  pub apart : (i j : ℕ) (n : FrameAt) → IsNamed b i n → IsNamed b j n → i ≡ j
  pub home : (q : ℕ) (n : FrameAt) (y : Cell) → IsNamed b q n → get_elem? s.homes q ≡ some (some y)
      → y ≡ Some (made b h n)
  pub values : (j : ℕ) (v : FrameHolder) (p : ℕ × FrameState) (n : FrameAt) → get_elem? s.views j ≡ some v → IsAmong p v.held
      → IsNamed b p.0 n → p.1 ≡ made b h n
  pub out : (j : ℕ) (v : FrameHolder) (q : ℕ) → get_elem? s.views j ≡ some v → Has q v.held → get_elem? s.homes q ≡ some none
  pub one : (i j : ℕ) (v w : FrameHolder) (q : ℕ) → get_elem? s.views i ≡ some v → get_elem? s.views j ≡ some w
      → Has q v.held
      → Has q w.held → i ≡ j
  pub once : (j : ℕ) (v : FrameHolder) → get_elem? s.views j ≡ some v → AreOnce v.held
  pub free : (q : ℕ) → q < length b.names → slice_index s.words (lock_place b q) ≡ 0
      → (y : Cell) × (get_elem? s.homes q ≡ some (some y))
  pub wide : (q : ℕ) → q < length b.names → lock_place b q < length s.words
  pub flags : FlagsAreKept b h s.words

-- the slots as the rule of the words sees them: it ignores what they hold
abbrev pub hidden : Maybe Cell → Maybe (Unit {0})
hidden h = none

abbrev pub own_of : FrameHolder → Outlook
own_of v = v.own

abbrev pub inner : Places → State Cell FrameHolder → State (Unit {0}) Outlook
inner b s =
    record {
      words = take (header_place b.layout.domains) s.words;
      homes = map hidden s.homes;
      views = map own_of s.views;
    }

-- words and views show a state of the core, and the frames are those of its history
pub record HoldsAll (b : Places) (s : State Cell FrameHolder) : Type 0 where
  pub words : TableHolds b.layout (inner b s)
  pub frames : FramesAreKept b words.shown.history s

-- what a seat knows that holds no frame
abbrev pub newcomer : Outlook → FrameHolder
newcomer o = record { own = o; held = []; locks = [] }

-- the frames of these domains, of which the first is at this position
abbrev pub names_from : ℕ → List DomainConfig → List FrameAt
names_from t [] = []
names_from t (d ∷ ds) = map (frame_of_owner t) (range_with_len 0 d.frames) ++ names_from (t + 1) ds

-- the run of a configuration, with its frames
abbrev pub places_of : Config → Places
places_of c = record { layout = layout_of c; names = names_from 0 c.domains.items }
