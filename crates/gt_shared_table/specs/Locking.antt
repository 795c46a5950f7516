-- The order in which a call takes the locks of frames, and why seats that wait never form a ring.
use Rattle.std.specs.Prelude.{◌≡◌, ℕ, ◌<◌, ◌⊎◌, List, [], ◌∷◌, ◌++◌}
use Rattle.gt_frames.specs.Frames.{FrameState}
use Rattle.gt_types.specs.declared.config.Config.{Config}
use Rattle.gt_word_history.specs.Views.{IsAmong}
use Rattle.gt_shared_table.specs.Rule.{FrameAt, IsNamed, places_of}

-- the first frame has the lower slot: its domain has the lower position, or it has the lower number in the same domain
abbrev pub IsLower : FrameAt → FrameAt → Type 0
IsLower a b = (a.0 < b.0) ⊎ ((a.0 ≡ b.0) × (a.1 < b.1))

-- the locks of the two frames of a copy were taken: that of the lower slot first, and that of one frame only once
abbrev pub LocksOf : FrameAt → FrameAt → List FrameAt → List FrameAt → Type 0
LocksOf a b old new =
    ((a ≡ b) × (new ≡ b ∷ old)) ⊎ ((IsLower a b × (new ≡ b ∷ a ∷ old)) ⊎ (IsLower b a × (new ≡ a ∷ b ∷ old)))

-- each frame held lies in a lower slot than this one
abbrev pub AreBelow : ℕ → List (ℕ × FrameState) → Type 0
AreBelow q held = (p : ℕ × FrameState) → IsAmong p held → p.0 < q

-- the frame in the lower of two slots is the lower frame
abbrev pub SlotsAreInOrder : Type 0
SlotsAreInOrder =
    (c : Config) (i j : ℕ) (a b : FrameAt) → IsNamed (places_of c) i a → IsNamed (places_of c) j b → i < j → IsLower a b

-- the frame is lower than each of these
abbrev pub IsLowerThanAll : FrameAt → List FrameAt → Type 0
IsLowerThanAll a [] = Unit {0}
IsLowerThanAll a (b ∷ bs) = IsLower a b × IsLowerThanAll a bs

-- each frame of the list is lower than all after it
abbrev pub Ascends : List FrameAt → Type 0
Ascends [] = Unit {0}
Ascends (a ∷ frames) = IsLowerThanAll a frames × Ascends frames

-- the locks that a seat took, the last one first, after it took these too, in this order
abbrev pub taken_after : List FrameAt → List FrameAt → List FrameAt
taken_after [] old = old
taken_after (a ∷ frames) old = taken_after frames (a ∷ old)

-- a copy takes its locks upwards
abbrev pub CopiesLockUpwards : Type 0
CopiesLockUpwards =
    (a b : FrameAt) (old new : List FrameAt) → LocksOf a b old new
    → (order : List FrameAt) × Ascends order × (new ≡ taken_after order old)

-- a seat that waits: the frames that it holds, and the one for which it waits
pub record Waiting : Type 0 where
  pub holds : List FrameAt
  pub wants : FrameAt

-- the seat waits in a call that takes these locks, in this order: it waits for one, and holds none but those before it
pub record WaitsIn (order : List FrameAt) (s : Waiting) : Type 0 where
  pub before : List FrameAt
  pub after : List FrameAt
  pub is : order ≡ before ++ s.wants ∷ after
  pub holds : (a : FrameAt) → IsAmong a s.holds → IsAmong a before

-- the seat waits in a call that takes its locks upwards
abbrev pub WaitsUpwards : Waiting → Type 0
WaitsUpwards s = (order : List FrameAt) × Ascends order × WaitsIn order s

-- each seat waits for a frame that the next one holds, from the first through the list to the last
abbrev pub IsWaitingChain : Waiting → List Waiting → Waiting → Type 0
IsWaitingChain first [] last = IsAmong first.wants last.holds
IsWaitingChain first (s ∷ seats) last = IsAmong first.wants s.holds × IsWaitingChain s seats last

-- each of the seats waits for a frame that the next one holds, and the last for one that the first holds
abbrev pub FormRing : List Waiting → Type 0
FormRing [] = ⊥
FormRing (s ∷ seats) = IsWaitingChain s seats s

-- seats that wait in calls which take their locks upwards never form a ring
abbrev pub SeatsFormNoRing : Type 0
SeatsFormNoRing = (seats : List Waiting) → ((s : Waiting) → IsAmong s seats → WaitsUpwards s) → FormRing seats → ⊥
