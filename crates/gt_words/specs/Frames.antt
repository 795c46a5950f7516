-- What the calls on frames promise.
use Rattle.std.specs.Prelude.{◌≡◌, ℕ, ◌<◌, List, length}
use Rattle.gt_types.specs.declared.DomId.{DomId}
use Rattle.gt_types.specs.declared.places.FrameName.{FrameName}
use Rattle.gt_types.specs.declared.places.Spot.{Spot}
use Rattle.gt_frames.specs.Receipts.{Copying, End, Reading, Writing}
use Rattle.gt_frames.specs.declared.writ.Writ.{Writ}
use Rattle.gt_types.specs.declared.Range.{Range}
use Rattle.gt_shared_table.specs.Rule.{FrameAt}
use Rattle.gt_shared_table.specs.Recording.{Accesses}
use Rattle.gt_shared_table.specs.Words.{HasFrame}
use Rattle.gt_shared_table.specs.declared.table.FrameIndex.{FrameIndex}
use Rattle.gt_word_history.specs.Events.{TookPlace}
use Rattle.gt_word_history.specs.History.{StepHistory}
use Rattle.gt_word_history.specs.Rule.{Layout, position_in}
use Rattle.gt_word_history.specs.Views.{with_step}
use Rattle.gt_word_history.specs.declared.view.FrameStep.{FrameStep}
use Rattle.gt_word_history.specs.declared.view.FrameStep.TheVariants.{Copied}
use Rattle.gt_word_history.specs.declared.view.SeatStep.TheVariants.{Frame}
use Rattle.gt_word_history.specs.declared.view.View.{View}
use Rattle.gt_words.specs.Conditions.{Board, position_at}
use Rattle.gt_words.specs.Keeping.{Keeps}
use Rattle.gt_words.specs.declared.frames.AccessFault.{AccessFault}
use Rattle.gt_words.specs.declared.frames.AccessFault.TheVariants.{Gone, Memory}

-- the frame of this name, as the table has it
abbrev pub index_of : Board → FrameName → FrameIndex
index_of b name = record { position = position_at b name.owner; number = name.number }

-- the frame is in the table
abbrev pub KeepsFrame : Board → FrameName → Type 0
KeepsFrame b name = HasFrame b (index_of b name)

-- the seat made this access to the frame f of the domain t, as one step at its moment, and nothing else: the step has
-- the bytes that the steps before it make (Accesses). The seat knows the same of the words as before
pub record AccessesFrame (k : Layout) (t f : ℕ) (m : FrameStep) (v w : View) : Type 0 where
  pub inside : t < k.domains
  pub past : StepHistory
  pub view : w ≡ with_step past (Frame t f m) v
  pub access : Accesses k v past (Frame t f m)
  pub took : TookPlace k v.position (past, Frame t f m)
  pub keeps : Keeps v w

-- the seat copied a range of the first frame to the second by this writ, starting at an offset, as one step of the
-- second frame: the bytes are those that the first then had
abbrev pub CopiesAt : Layout → FrameAt → FrameAt → Writ → Range → ℕ → View → View → Type 0
CopiesAt k a b w range to_off u v =
    (a.0 < k.domains) × (bytes : List ℕ) × (length bytes ≡ range.len)
    × AccessesFrame k b.0 b.1 (Copied a.0 a.1 range.off (record { writ = w; off = to_off; bytes = bytes })) u v

-- the frame of this name, by the position of its owner
abbrev pub frame_in : Layout → FrameName → FrameAt
frame_in k name = (position_in k.ids name.owner, name.number)

-- the seat copied len bytes from one place to the other by this writ, as one step
abbrev pub CopiesFrames : Layout → Spot → Spot → ℕ → Writ → View → View → Type 0
CopiesFrames k from to len w u v =
    CopiesAt k (frame_in k from.frame) (frame_in k to.frame) w (record { off = from.off; len = len }) to.off u v

-- the receipt of a read of this many bytes of the frame, starting at off
pub record IsReadOf (r : Reading) (name : FrameName) (off len : ℕ) : Type 0 where
  pub owner_is : r.owner ≡ name.owner
  pub number_is : r.number ≡ name.number
  pub off_is : r.off ≡ off
  pub len_is : length r.bytes ≡ len

-- these bytes, written by this writer to the frame of this name, starting at off
abbrev pub writing_at : FrameName → ℕ → List ℕ → DomId → Writing
writing_at name off ys writer =
    record { owner = name.owner; number = name.number; off = off; bytes = ys; writer = writer }

-- an end of a copy at this byte
abbrev pub end_at : Spot → End
end_at s = record { owner = s.frame.owner; number = s.frame.number; off = s.off }

-- the byte at this offset of the frame
abbrev pub spot_in : FrameName → ℕ → Spot
spot_in name off = record { frame = name; off = off }

-- len bytes, copied by this writer from one place to the other
abbrev pub copying_at : Spot → Spot → ℕ → DomId → Copying
copying_at from to len writer = record { source = end_at from; dest = end_at to; len = len; writer = writer }

-- the access was not made because the frame is not in the table, or because allocation failed
abbrev pub IsFaultAt : Board → FrameName → AccessFault → Type 0
IsFaultAt b name Gone = KeepsFrame b name → ⊥
IsFaultAt b name Memory = Unit {0}

-- the copy was not made because one of the frames is not in the table, or because allocation failed
abbrev pub IsCopyFault : Board → FrameName → FrameName → AccessFault → Type 0
IsCopyFault b source dest Gone = KeepsFrame b source → KeepsFrame b dest → ⊥
IsCopyFault b source dest Memory = Unit {0}
