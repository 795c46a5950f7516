-- The contents of a frame, and the right by which each byte was written.
use Rattle.std.specs.Prelude.{◌≡◌, ℕ, ◌+◌, ◌==◌, Bool, true, ◌&&◌, nat_le, IsTrue, List, [], ◌∷◌, ◌++◌, map, length}
use Rattle.std.specs.Prelude.{slice_range}
use Rattle.gt_types.specs.declared.DomId.{DomId}
use Rattle.gt_types.specs.declared.limits.TheConstants.{FRAME_SIZE}
use Rattle.gt_types.specs.declared.Dir.TheVariants.{Write}
use Rattle.gt_types.specs.declared.Use.TheVariants as uses
use Rattle.gt_model.specs.declared.entry.Entry.{Entry}
use Rattle.gt_model.specs.Permits.{permits, forwards, leads_to, is_of_frame}
use Rattle.gt_frames.specs.declared.writ.WriteBasis.{WriteBasis}
use Rattle.gt_frames.specs.declared.writ.WriteBasis.TheVariants.{Owned, Granted, Forwarded}
use Rattle.gt_frames.specs.declared.writ.Writ.{Writ}
use Rattle.gt_frames.specs.declared.writ.WriteRecord.{WriteRecord}
use Rattle.gt_model.specs.Written.{overlay, IsLaidOver, Patch, written}

-- a frame: its owner, its number among the owner's frames, and its writes, the oldest first
pub record FrameState : Type 0 where
  pub owner : DomId
  pub number : ℕ
  pub journal : List WriteRecord

-- bytes

-- the write of a record
abbrev pub patch_of : WriteRecord → Patch
patch_of r = record { off = r.off; bytes = r.bytes }

-- the writes of a journal, the oldest first
abbrev pub patches : List WriteRecord → List Patch
patches rs = map patch_of rs

-- the bytes of a frame: the replay of its journal over zeros
abbrev pub contents : FrameState → List ℕ
contents f = written (patches f.journal)

-- len bytes of the frame, starting at off
abbrev pub bytes_at : FrameState → ℕ → ℕ → List ℕ
bytes_at f off len = slice_range (contents f) off (off + len)

-- rights

-- the entry permits the domain to write this range of this frame
abbrev pub permits_writing : Entry → DomId → ℕ → ℕ → ℕ → Bool
permits_writing entry d number off len = is_of_frame entry number && permits entry d Write uses.Copy off len

-- the writer may write this range of this frame of the owner's by this basis
abbrev pub suffices : WriteBasis → DomId → DomId → ℕ → ℕ → ℕ → Bool
suffices Owned writer owner number off len = writer.0 == owner.0
suffices (Granted entry) writer owner number off len = permits_writing entry writer number off len
suffices (Forwarded via middle entry) writer owner number off len =
    forwards via writer Write && leads_to via owner && permits_writing entry middle number off len

-- the writ is for this range of this frame
abbrev pub covers : Writ → DomId → ℕ → ℕ → ℕ → Bool
covers w owner number off len = suffices w.basis w.writer owner number off len

-- the record lies in the frame, and its writ is for its range
abbrev pub is_rightful : DomId → ℕ → WriteRecord → Bool
is_rightful owner number r =
    nat_le (r.off + length r.bytes) FRAME_SIZE && covers r.writ owner number r.off (length r.bytes)

-- each record of the list lies in the frame, and its writ is for its range
abbrev pub all_rightful : DomId → ℕ → List WriteRecord → Bool
all_rightful owner number [] = true
all_rightful owner number (r ∷ rs) = is_rightful owner number r && all_rightful owner number rs

-- each write to the frame was by right
abbrev pub IsKept : FrameState → Type 0
IsKept f = IsTrue (all_rightful f.owner f.number f.journal)

-- these bytes are the journal's replay over zeros, and each write was by right
pub record IsSound (owner : DomId) (number : ℕ) (bytes : List ℕ) (journal : List WriteRecord) : Type 0 where
  pub replayed : bytes ≡ written (patches journal)
  pub len : length bytes ≡ FRAME_SIZE
  pub rightful : IsTrue (all_rightful owner number journal)

-- changes

-- the journal with one more write
abbrev pub recorded : List WriteRecord → Writ → ℕ → List ℕ → List WriteRecord
recorded rs w off ys = rs ++ record { writ = w; off = off; bytes = ys } ∷ []

-- the frame after one more write
abbrev pub with_write : FrameState → Writ → ℕ → List ℕ → FrameState
with_write f w off ys = record f { journal = recorded f.journal w off ys }

-- the new frame is the old one after this write, which changed the bytes of its range and no others
pub record IsWrite (old new : FrameState) (w : Writ) (off : ℕ) (ys : List ℕ) : Type 0 where
  pub journal : new ≡ with_write old w off ys
  pub bytes : IsLaidOver (contents old) off ys (contents new)
  pub contents : contents new ≡ overlay (contents old) off ys
