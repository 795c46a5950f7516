-- How a call reads and writes bytes in frames: the code's own representation. It is in specs/ because private
-- contracts cite it.
use Rattle.std.specs.Prelude.{◌≡◌, ℕ, List, length, IsTrue}
use Rattle.gt_handles.specs.Handles.{HandleMap, value_of}
use Rattle.gt_model.specs.declared.held.HeldPin.{HeldPin}
use Rattle.gt_model.specs.declared.held.AccessPath.{AccessPath}
use Rattle.gt_model.specs.declared.held.AccessPath.TheVariants.{Own, Direct, Through}
use Rattle.gt_model.specs.declared.request.OpenRequest.{OpenRequest}
use Rattle.gt_model.specs.declared.request.OpenRequest.TheVariants.{Load, Store, Peek, Copy}
use Rattle.gt_model.specs.declared.action.Step.{Step}
use Rattle.gt_model.specs.declared.action.Step.TheVariants as call_steps
use Rattle.gt_calls.specs.declared.call.Call.{Call}
use Rattle.gt_calls.specs.Holding.{begun_access_path}
use Rattle.gt_calls.specs.Standing.{pins_by_call}
use Rattle.gt_types.specs.declared.places.FrameName.{FrameName}
use Rattle.gt_frames.specs.declared.writ.WriteBasis.{WriteBasis}
use Rattle.gt_frames.specs.declared.writ.WriteBasis.TheVariants.{Owned, Granted, Forwarded}
use Rattle.gt_frames.specs.declared.writ.Writ.{Writ}
use Rattle.gt_frames.specs.Frames.{bytes_at}
use Rattle.gt_frames.specs.Sets.{FrameSet, frame_at, has_range, admits, AreKept, WritesTo}
use Rattle.gt_core.specs.States.{State}

-- the right of a write by an access path: the writer owns the frame, or the entries of the access path's pins grant it
abbrev pub basis_of : AccessPath → WriteBasis
basis_of Own = Owned
basis_of (Direct p) = Granted p.entry
basis_of (Through via p) = Forwarded via.entry via.dom p.entry

-- the access path by which a call writes: by the pin of a store's mapping, or by those of a copy's destination; otherwise
-- to the caller's own frame
abbrev pub access_path_of : HandleMap HeldPin → Call → AccessPath
access_path_of mappings call = by call.request
  where
    by : OpenRequest → AccessPath
    by (Store handle off len) = begun_access_path (value_of mappings handle)
    by (Copy c) = (pins_by_call call).dest
    by request = Own

-- the writ is that of the domain's call: the caller writes, by the access path of the call
abbrev pub IsWritOf : State → Call → Writ → Type 0
IsWritOf d call w = (w.writer ≡ call.caller) × (w.basis ≡ basis_of (access_path_of d.mappings call))

-- the step writes bytes
abbrev pub IsWriting : Step → Type 0
IsWriting (call_steps.Write dom frame off len) = Unit {0}
IsWriting (call_steps.Copy from to len) = Unit {0}
IsWriting step = ⊥

-- the request reads n bytes
abbrev pub IsLoadOf : OpenRequest → ℕ → Type 0
IsLoadOf (Load handle off len) n = len ≡ n
IsLoadOf (Peek frame off len) n = len ≡ n
IsLoadOf request n = ⊥

-- if the step reads, its range exists, and its call asks for as many bytes
abbrev pub IsReadable : FrameSet → Call → Step → Type 0
IsReadable fs call (call_steps.Read dom frame off len) =
    IsTrue (has_range fs (record { owner = dom; number = frame }) off len) × IsLoadOf call.request len
IsReadable fs call step = Unit {0}

-- if the step writes, its ranges exist, and the writ of the domain's call covers the range that it writes
abbrev pub IsAdmitted : FrameSet → State → Call → Step → Type 0
IsAdmitted fs d call (call_steps.Write dom frame off len) =
    (w : Writ) → IsWritOf d call w
    → IsTrue (admits fs (record { owner = dom; number = frame }) w off (length d.given))
IsAdmitted fs d call (call_steps.Copy from to len) =
    IsTrue (has_range fs from.frame from.off len)
    × ((w : Writ) → IsWritOf d call w → IsTrue (admits fs to.frame w to.off len))
IsAdmitted fs d call step = Unit {0}

-- the frames after the domain's call writes these bytes to one of them, by its writ
abbrev pub WritesByRight : State → Call → FrameSet → FrameSet → FrameName → ℕ → List ℕ → Type 0
WritesByRight d call old new name off bytes =
    (w : Writ) × IsWritOf d call w × WritesTo old new name w off bytes × AreKept new

-- the frames after a step: it writes the bytes of its request, or for a copy those of the source range, or changes
-- none
abbrev pub AccessedBy : State → Call → Step → FrameSet → FrameSet → Type 0
AccessedBy d call (call_steps.Write dom frame off len) old new =
    WritesByRight d call old new (record { owner = dom; number = frame }) off d.given
AccessedBy d call (call_steps.Copy from to len) old new =
    WritesByRight d call old new to.frame to.off (bytes_at (frame_at old from.frame) from.off len)
AccessedBy d call step old new = new ≡ old
