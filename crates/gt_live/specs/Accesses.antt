-- Calls with an access to bytes: the path to it, the access, and the path from there to the end.
use Rattle.std.specs.Prelude.{◌≡◌, ◌⊎◌, ℕ, List, [], ◌∷◌, ◌++◌, length, Some, Result, Ok, Err}
use Rattle.gt_live.specs.Prelude.{DomId, Denial, N16, N26, denial_of, Layout, Moment, View, Copying, Reading, Writing}
use Rattle.gt_live.specs.Prelude.{FrameName, IsReadOf, copying_at, writing_at, Observation, Nothing, Step, Granted}
use Rattle.gt_live.specs.Prelude.{Refused, Continuation, position_in, Spot, SeatOf, AccessPath, Own, Direct}
use Rattle.gt_live.specs.Prelude.{Dir, Use, Read, Write, CallerKnowledge, CallPins, Copy, CopyArgs, Domain, HeldPin}
use Rattle.gt_live.specs.Prelude.{Request, RestsOnWays, bytes_given_by, last_first, value_of}
use Rattle.gt_model.specs.declared.action.Action.TheVariants as actions
use Rattle.gt_model.specs.declared.action.Step.TheVariants as call_steps
use Rattle.gt_types.specs.declared.denial.Facts.TheVariants as facts
use Rattle.gt_types.specs.declared.Use.TheVariants as uses
use Rattle.gt_model.specs.declared.request.Request.TheVariants as requests
use Rattle.gt_word_history.specs.declared.view.FrameStep.TheVariants as frame_steps
use Rattle.gt_words.specs.Conditions.{Board}
use Rattle.gt_words.specs.Frames.{AccessesFrame, CopiesFrames, KeepsFrame}
use Rattle.gt_live.specs.Taken.{HasTaken}
use Rattle.gt_live.specs.Walks.{AreMoments, Called, IsWalk, view_after, all_shown}
use Rattle.gt_live.specs.AccessPaths.{ReachesBy}
pub use Rattle.gt_live.specs.AccessPaths.{writ_by}
pub use Rattle.gt_calls.specs.Standing.{IsAccess}

-- the rest of this path after these observations
abbrev pub onward : Continuation → List Observation → Continuation
onward way values vs = way (values ++ vs)

-- a call reached this access: the steps that took its seat's view from v to w are those of its path, one after another,
-- and the access comes next
pub record ComesTo (k : Layout) (way : Continuation) (access : Step) (v w : View) : Type 0 where
  pub steps : List Moment
  pub view : w ≡ view_after steps v
  pub walked : IsWalk k way v steps
  pub moments : AreMoments k v steps
  pub next : way (all_shown steps) ≡ Some (actions.Step access)
  pub is_access : IsAccess access

-- of all actions on this path over the observations of a whole call, only the one after the observations before is an
-- access to bytes
abbrev pub IsOnlyAccess : Continuation → List Observation → List Observation → Type 0
IsOnlyAccess way before whole =
    (vs rest : List Observation) (s : Step) → whole ≡ vs ++ rest → way vs ≡ Some (actions.Step s) → IsAccess s
    → vs ≡ before

-- a call with this access was made whole: it reached the access, which did this to its seat's view and shows nothing,
-- and continued from there to its end, where its path is Ok. The access comes after the steps on the words that led to
-- it and before the steps to the end, and the call made no other access
pub record EndsAfterAccess (k : Layout) (way : Continuation) (access : Step) (does : View → View → Type 0) (v w : View)
    : Type 0 where
  pub at : View
  pub after : View
  pub comes : ComesTo k way access v at
  pub did : does at after
  pub ends : Called k (onward way (all_shown comes.steps ++ Nothing ∷ [])) Granted after w
  pub only : IsOnlyAccess way (all_shown comes.steps) ((all_shown comes.steps ++ Nothing ∷ []) ++ all_shown ends.steps)

-- the access was not made
abbrev pub IsUnmade : View → View → Type 0
IsUnmade v w = w ≡ v

-- the refusal of an access to a frame that the table does not keep
abbrev pub IsOfMissing : Denial → Type 0
IsOfMissing denial = denial ≡ denial_of N16 facts.None

-- the refusal of an access that was not made: allocation failed, or the table does not keep the frame
abbrev pub IsOfAccess : Denial → Type 0
IsOfAccess denial = (denial ≡ denial_of N26 facts.None) ⊎ IsOfMissing denial

-- the name of the frame with this number of this owner
abbrev pub frame_named : DomId → ℕ → FrameName
frame_named owner number = record { owner = owner; number = number }

-- N16 comes only if the table does not keep the frame
abbrev pub IsIfMissing : Board → FrameName → Denial → Type 0
IsIfMissing b name denial = denial ≡ denial_of N16 facts.None → KeepsFrame b name → ⊥

-- N16 comes only if the table does not keep both frames
abbrev pub IsIfOneMissing : Board → FrameName → FrameName → Denial → Type 0
IsIfOneMissing b from to denial = denial ≡ denial_of N16 facts.None → KeepsFrame b from → KeepsFrame b to → ⊥

-- the refusal of this access has its cause
abbrev pub HasCause : Board → Step → Denial → Type 0
HasCause b (call_steps.Read dom frame off len) denial = IsIfMissing b (frame_named dom frame) denial
HasCause b (call_steps.Write dom frame off len) denial = IsIfMissing b (frame_named dom frame) denial
HasCause b (call_steps.Copy from to len) denial = IsIfOneMissing b from.frame to.frame denial
HasCause b step denial = Unit {0}

-- the result of a call with an access. Ok: its whole path was made, and the value is that of the access as it was made.
-- A refusal: it is the path's own; or the access could not be made, which has its cause, and the call still continued
-- to its end, which releases its pins
abbrev pub AnsweredAtAccess : {R : Type 0} → Board → Continuation → (Step → R → View → View → Type 0)
    → Result R Denial → View → View
    → Type 0
AnsweredAtAccess b way makes (Ok r) v w = (access : Step) × EndsAfterAccess b.layout way access (makes access r) v w
AnsweredAtAccess b way makes (Err denial) v w =
    Called b.layout way (Refused denial) v w
    ⊎ ((access : Step) × EndsAfterAccess b.layout way access IsUnmade v w × IsOfAccess denial
    × HasCause b access denial)

-- the seat read this many bytes of the frame, as one step of the history: the receipt has the bytes of that step
abbrev pub ReadsFrame : Layout → FrameName → ℕ → ℕ → Reading → View → View → Type 0
ReadsFrame k name off len r v w =
    IsReadOf r name off len
    × AccessesFrame k (position_in k.ids name.owner) name.number (frame_steps.Read off r.bytes) v w

-- at this view the domain reaches this range by the access path: the frame is its own, or the view has the pins of the access path,
-- and they permit the access
pub record ReachesAt (k : Layout) (v : View) (caller : DomId) (dir : Dir) (purpose : Use) (name : FrameName)
    (off len : ℕ) (access_path : AccessPath) : Type 0 where
  pub seat : SeatOf
  pub dom : seat.dom ≡ caller
  pub view : seat.view ≡ v
  pub reaches : ReachesBy k seat dir purpose name off len access_path

-- the writer wrote these bytes to the frame, as one step of the history, by the writ of this access path
abbrev pub WritesFrame : Layout → FrameName → ℕ → List ℕ → DomId → AccessPath → Writing → View → View → Type 0
WritesFrame k name off bytes writer access_path r v w =
    (r ≡ writing_at name off bytes writer)
    × ReachesAt k v writer Write uses.Map name off (length bytes) access_path
    × AccessesFrame k (position_in k.ids name.owner) name.number
    (frame_steps.Wrote (record { writ = writ_by writer access_path; off = off; bytes = bytes })) v w

-- the writer copied this many bytes from one place to the other, as one step of the history: it read by the access path to
-- the source, and wrote by the writ of the access path to the destination
abbrev pub CopiesBetween : Layout → Spot → Spot → ℕ → DomId → CallPins → Copying → View → View → Type 0
CopiesBetween k from to len writer access_paths r v w =
    (r ≡ copying_at from to len writer)
    × ReachesAt k v writer Read uses.Copy from.frame from.off len access_paths.source
    × ReachesAt k v writer Write uses.Copy to.frame to.off len access_paths.dest
    × CopiesFrames k from to len (writ_by writer access_paths.dest) v w

-- the access read exactly its frame and range
abbrev pub IsReadBy : Layout → Step → Reading → View → View → Type 0
IsReadBy k (call_steps.Read dom frame off len) r v w = ReadsFrame k (frame_named dom frame) off len r v w
IsReadBy k step r v w = ⊥

-- if the read was made, the caller's buffer has the bytes read; if it was refused, the buffer is unchanged
abbrev pub FillsBuffer : Result Reading Denial → List ℕ → List ℕ → Type 0
FillsBuffer (Ok r) old new = new ≡ r.bytes
FillsBuffer (Err denial) old new = new ≡ old

-- the access path that a request to write names: a store names the pin of the mapping under its handle, and a poke a frame
-- that the domain owns
abbrev pub NamesAccessPath : Domain → Request → AccessPath → Type 0
NamesAccessPath d (requests.Store handle off bytes) access_path =
    (p : HeldPin) × (value_of d.mappings handle ≡ Some p) × (access_path ≡ Direct p)
NamesAccessPath d (requests.Poke frame off bytes) access_path = access_path ≡ Own
NamesAccessPath d request access_path = ⊥

-- the domain wrote the bytes of this request to exactly the frame and range of the access, by the access path that the
-- request names
abbrev pub IsWrittenBy : Layout → Domain → Request → Step → Writing → View → View → Type 0
IsWrittenBy k d request (call_steps.Write dom frame off len) r v w =
    (access_path : AccessPath) × NamesAccessPath d request access_path
    × WritesFrame k (frame_named dom frame) off (bytes_given_by request) d.seat.dom access_path r v w
IsWrittenBy k d request step r v w = ⊥

-- the copy came by these access paths from the view v to its access at the view w: they lead to its two ends, and their pins
-- are those that it took
pub record CameBy (c : CallerKnowledge) (k : Layout) (caller : DomId) (copy : CopyArgs) (from to : Spot) (len : ℕ)
    (access_paths : CallPins) (v w : View) : Type 0 where
  pub ends : RestsOnWays c caller (Copy copy) access_paths from to len
  pub taken : HasTaken k (last_first access_paths) v w

-- the domain copied exactly the access's number of bytes between the access's places, by the access paths by which this copy
-- came to it
abbrev pub IsCopiedBy : CallerKnowledge → Layout → Domain → CopyArgs → Step → Copying → View → View → Type 0
IsCopiedBy c k d copy (call_steps.Copy from to len) r v w =
    (access_paths : CallPins) × CameBy c k d.seat.dom copy from to len access_paths d.seat.view v
    × CopiesBetween k from to len d.seat.dom access_paths r v w
IsCopiedBy c k d copy step r v w = ⊥
