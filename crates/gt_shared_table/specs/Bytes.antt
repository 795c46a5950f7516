-- The frames that the history makes, and which steps are true to it.
use Rattle.std.specs.Prelude.{◌≡◌, ℕ, cond, ◌==◌, ◌&&◌, List, [], ◌∷◌, ◌++◌, length, IsTrue}
use Rattle.gt_frames.specs.Frames.{FrameState, bytes_at, is_rightful}
use Rattle.gt_frames.specs.declared.writ.WriteRecord.{WriteRecord}
use Rattle.gt_word_history.specs.Flags.{IsRaised}
use Rattle.gt_word_history.specs.History.{Layout, StepHistory}
use Rattle.gt_word_history.specs.Rule.{id_at}
use Rattle.gt_word_history.specs.declared.view.FlagStep.TheVariants.{Passed, Raised}
use Rattle.gt_word_history.specs.declared.view.FrameStep.{FrameStep}
use Rattle.gt_word_history.specs.declared.view.FrameStep.TheVariants.{Read, Wrote, Copied}
use Rattle.gt_word_history.specs.declared.view.SeatStep.{SeatStep}
use Rattle.gt_word_history.specs.declared.view.SeatStep.TheVariants.{Entry, Flag, Frame, Header}

-- the journal of a frame after an access to it
abbrev pub journal_by : FrameStep → List WriteRecord → List WriteRecord
journal_by (Read off bs) rs = rs
journal_by (Wrote r) rs = rs ++ r ∷ []
journal_by (Copied d f off r) rs = rs ++ r ∷ []

-- the journal of the frame f of the domain t after a step
abbrev pub journal_after : ℕ → ℕ → SeatStep → List WriteRecord → List WriteRecord
journal_after t f (Entry d q m) rs = rs
journal_after t f (Header d m) rs = rs
journal_after t f (Flag g m) rs = rs
journal_after t f (Frame d q m) rs = cond ((d == t) && (q == f)) (journal_by m rs) rs

-- the journal of the frame f of the domain t that a history makes
abbrev pub journal_made : ℕ → ℕ → StepHistory → List WriteRecord
journal_made t f [] = []
journal_made t f (p ∷ h) = journal_after t f p.1 (journal_made t f h)

-- the frame f of the domain t that a history makes
abbrev pub frame_made : Layout → ℕ → ℕ → StepHistory → FrameState
frame_made k t f h = record { owner = id_at k.ids t; number = f; journal = journal_made t f h }

-- a read or a copy has the bytes that the history makes, a write is by right, and a flag that was passed was raised
-- before
abbrev pub IsTrueStep : Layout → StepHistory → SeatStep → Type 0
IsTrueStep k h (Entry d q m) = Unit {0}
IsTrueStep k h (Header d m) = Unit {0}
IsTrueStep k h (Flag f Raised) = Unit {0}
IsTrueStep k h (Flag f Passed) = IsRaised f h
IsTrueStep k h (Frame t f (Read off bs)) = bs ≡ bytes_at (frame_made k t f h) off (length bs)
IsTrueStep k h (Frame t f (Wrote r)) = IsTrue (is_rightful (id_at k.ids t) f r)
IsTrueStep k h (Frame t f (Copied d q off r)) =
    (r.bytes ≡ bytes_at (frame_made k d q h) off (length r.bytes)) × IsTrue (is_rightful (id_at k.ids t) f r)

-- each step of the history is true to the steps before it
abbrev pub AreTrueSteps : Layout → StepHistory → Type 0
AreTrueSteps k [] = Unit {0}
AreTrueSteps k (p ∷ h) = IsTrueStep k h p.1 × AreTrueSteps k h

-- the step is on words of entries or headers
abbrev pub IsOnWords : SeatStep → Type 0
IsOnWords (Entry d q m) = Unit {0}
IsOnWords (Header d m) = Unit {0}
IsOnWords (Frame d q m) = ⊥
IsOnWords (Flag f m) = ⊥

-- the step leaves these words
abbrev pub IsAside : SeatStep → Type 0
IsAside (Entry d q m) = ⊥
IsAside (Header d m) = ⊥
IsAside (Frame d q m) = Unit {0}
IsAside (Flag f m) = Unit {0}
