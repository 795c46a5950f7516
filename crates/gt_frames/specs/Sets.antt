-- The frames of a run.
use Rattle.std.specs.Prelude.{◌≡◌, ℕ, ◌+◌, Bool, false, ◌&&◌, nat_le, List, [], map, length, replicate, set, slice_get}
use Rattle.std.specs.Prelude.{unwrap_or, is_some, Option, Some, None}
use Rattle.std.specs.List.{range_with_len}
use Rattle.gt_types.specs.declared.limits.TheConstants.{FRAME_SIZE}
use Rattle.gt_frames.specs.declared.places.FrameCount.{FrameCount}
use Rattle.gt_types.specs.declared.places.FrameName.{FrameName}
use Rattle.gt_frames.specs.declared.writ.Writ.{Writ}
use Rattle.gt_frames.specs.declared.writ.WriteRecord.{WriteRecord}
use Rattle.gt_frames.specs.Frames.{FrameState, bytes_at, covers, IsKept, IsWrite}
use Rattle.gt_frames.specs.Places.{pool_number, frames_of, name_in, names_of, is_name}

-- the frames of a run: the number of frames of each domain, and the writes to each frame by its pool number, the
-- oldest first
pub record FrameSet : Type 0 where
  pub domains : List FrameCount
  pub journals : List (List WriteRecord)

-- the frame's pool number, None if there is no such frame
abbrev pub place_in : FrameSet → FrameName → Option ℕ
place_in fs name = pool_number fs.domains name.owner name.number 0

-- the writes to the frame with this pool number, none if there is no such frame
abbrev pub journal_in : Option ℕ → List (List WriteRecord) → List WriteRecord
journal_in None journals = []
journal_in (Some place) journals = unwrap_or (slice_get journals place) []

-- the frame of this name with its writes, none if there is no such frame
abbrev pub frame_at : FrameSet → FrameName → FrameState
frame_at fs name =
    record { owner = name.owner; number = name.number; journal = journal_in (place_in fs name) fs.journals }

-- there is a frame of this name
abbrev pub has_frame : FrameSet → FrameName → Bool
has_frame fs name = is_some (place_in fs name)

-- there is a frame of this name, and the range ends inside it
abbrev pub has_range : FrameSet → FrameName → ℕ → ℕ → Bool
has_range fs name off len = has_frame fs name && nat_le (off + len) FRAME_SIZE

-- there is such a range, and the writ covers it
abbrev pub admits : FrameSet → FrameName → Writ → ℕ → ℕ → Bool
admits fs name w off len = has_range fs name off len && covers w name.owner name.number off len

-- each write to each frame was by right
abbrev pub AreKept : FrameSet → Type 0
AreKept fs = (name : FrameName) → IsKept (frame_at fs name)

-- the new frames are the old ones after this write to the frame of this name; all others are unchanged
pub record WritesTo (old new : FrameSet) (name : FrameName) (w : Writ) (off : ℕ) (ys : List ℕ) : Type 0 where
  pub domains : new.domains ≡ old.domains
  pub write : IsWrite (frame_at old name) (frame_at new name) w off ys
  pub others : (other : FrameName) → is_name other name ≡ false → frame_at new other ≡ frame_at old other

-- no frame was written yet
abbrev pub all_zeros : List FrameCount → FrameSet
all_zeros ds = record { domains = ds; journals = replicate (frames_of ds) [] }

-- the name of a frame
abbrev pub name_of : FrameState → FrameName
name_of f = record { owner = f.owner; number = f.number }

-- the writes to a frame
abbrev pub journal_of : FrameState → List WriteRecord
journal_of f = f.journal

-- each frame of the list is at the pool number of its name, and all its writes were by right
pub record AreLaidOut (domains : List FrameCount) (frames : List FrameState) : Type 0 where
  pub count : length frames ≡ frames_of domains
  pub names : map name_of frames ≡ names_of domains
  pub kept : (place : ℕ) (f : FrameState) → slice_get frames place ≡ Some f → IsKept f

-- a frame that was never written
abbrev pub zero_frame : FrameName → FrameState
zero_frame name = record { owner = name.owner; number = name.number; journal = [] }

-- the frame of this domain with this number, never written
abbrev pub zero_in : FrameCount → ℕ → FrameState
zero_in d number = zero_frame (name_in d number)

-- the frames of a domain, never written
abbrev pub zero_frames : FrameCount → List FrameState
zero_frames d = map (zero_in d) (range_with_len 0 d.frames)

-- len bytes were copied between two of these frames by this writ; the one that was written changed, and no other
abbrev pub CopiesAmong : List FrameState → List FrameState → ℕ → ℕ → Writ → ℕ → ℕ → ℕ → Type 0
CopiesAmong old new source dest w from_off to_off len =
    (from to : FrameState) → slice_get old source ≡ Some from → slice_get old dest ≡ Some to
    → (after : FrameState) × IsWrite to after w to_off (bytes_at from from_off len) × IsKept after
    × (new ≡ set old dest after)
