-- What the calls on frames promise, by the view of the seat.
use Rattle.std.specs.Prelude.{◌≡◌, ℕ, List, length}
use Rattle.gt_frames.specs.Receipts.{Copying, Reading, Writing}
use Rattle.gt_frames.specs.declared.writ.Writ.{Writ}
use Rattle.gt_types.specs.declared.Range.{Range}
use Rattle.gt_word_history.specs.History.{Layout, StepHistory}
use Rattle.gt_word_history.specs.Rule.{id_at}
use Rattle.gt_word_history.specs.Views.{with_step}
use Rattle.gt_word_history.specs.declared.view.FlagStep.{FlagStep}
use Rattle.gt_word_history.specs.declared.view.FrameStep.{FrameStep}
use Rattle.gt_word_history.specs.declared.view.FrameStep.TheVariants.{Copied}
use Rattle.gt_word_history.specs.declared.view.SeatStep.TheVariants.{Flag, Frame}
use Rattle.gt_word_history.specs.declared.view.View.{View}
use Rattle.gt_shared_table.specs.Rule.{FrameAt}
use Rattle.gt_shared_table.specs.Recording.{Accesses}

-- the seat with the view v made this access to the frame, as one step, right after the history past; its view is then
-- w: v with that step, and nothing else
abbrev pub TakesAccess : Layout → FrameAt → FrameStep → View → View → Type 0
TakesAccess k n m v w = (past : StepHistory) × (w ≡ with_step past (Frame n.0 n.1 m) v) × Accesses k v past (Frame n.0 n.1 m)

-- the seat made this step on the flag right after the history past; its view is then w: v with that step, and nothing
-- else
abbrev pub TakesFlagStep : Layout → ℕ → FlagStep → View → View → Type 0
TakesFlagStep k flag m v w = (past : StepHistory) × (w ≡ with_step past (Flag flag m) v) × Accesses k v past (Flag flag m)

-- the seat copied a range of the first frame to the second, starting at an offset, as one step: the bytes are those
-- that the source then had
abbrev pub TakesCopy : Layout → FrameAt → FrameAt → Writ → Range → ℕ → View → View → Type 0
TakesCopy k a b w range to_off u v =
    (bytes : List ℕ) × (length bytes ≡ range.len)
    × TakesAccess k b (Copied a.0 a.1 range.off (record { writ = w; off = to_off; bytes = bytes })) u v

-- the receipt is of this frame, starting at off
abbrev pub IsReadIn : Layout → FrameAt → ℕ → Reading → Type 0
IsReadIn k n off r = (r.owner ≡ id_at k.ids n.0) × (r.number ≡ n.1) × (r.off ≡ off)

-- the receipt of a write of these bytes to the frame, starting at off
abbrev pub written_in : Layout → FrameAt → Writ → ℕ → List ℕ → Writing
written_in k n w off ys =
    record { owner = id_at k.ids n.0; number = n.1; off = off; bytes = ys; writer = w.writer }

-- the receipt of a copy of a range of the first frame to the second, starting at an offset
abbrev pub copied_in : Layout → FrameAt → FrameAt → Writ → Range → ℕ → Copying
copied_in k a b w range to_off =
    record {
      source = record { owner = id_at k.ids a.0; number = a.1; off = range.off };
      dest = record { owner = id_at k.ids b.0; number = b.1; off = to_off };
      len = range.len;
      writer = w.writer;
    }
