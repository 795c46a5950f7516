-- What the steps on frames promise.
use Rattle.std.specs.Prelude.{◌≡◌, ℕ, List, [], ◌∷◌, ◌⊎◌, MatchBool, nat_lt, ◌==◌, length, Some, None}
use Rattle.std.specs.Prelude.{Bool, true, false, IsTrue}
use Rattle.atomic_table.specs.Table.{Me, rest}
use Rattle.atomic_table.specs.Seated.{TableId}
use Rattle.atomic_table.specs.declared.shared.Seat.{Seat}
use Rattle.gt_frames.specs.Frames.{FrameState, bytes_at, is_rightful}
use Rattle.gt_word_history.specs.History.{Layout, StepHistory}
use Rattle.gt_word_history.specs.Rule.{HasStood, id_at}
use Rattle.gt_word_history.specs.Steps.{StoodWith}
use Rattle.gt_word_history.specs.Views.{IsAmong, with_step}
use Rattle.gt_word_history.specs.declared.view.FlagStep.TheVariants.{Passed}
use Rattle.gt_word_history.specs.declared.view.FrameStep.{FrameStep}
use Rattle.gt_word_history.specs.declared.view.FrameStep.TheVariants.{Read, Wrote, Copied}
use Rattle.gt_word_history.specs.declared.view.SeatStep.{SeatStep}
use Rattle.gt_word_history.specs.declared.view.SeatStep.TheVariants.{Flag, Frame}
use Rattle.gt_word_history.specs.declared.view.Outlook.{Outlook}
use Rattle.gt_word_history.specs.declared.view.View.{View}
use Rattle.gt_shared_table.specs.declared.rule.FrameHolder.{FrameHolder}
use Rattle.gt_shared_table.specs.Bytes.{AreTrueSteps, IsTrueStep, frame_made}
use Rattle.gt_shared_table.specs.Rule.{Cell, FrameAt, IsNamed, Places, slot_frame}
use Rattle.gt_shared_table.specs.declared.rule.FrameSlot.{FrameSlot}
use Rattle.gt_frames.specs.declared.writ.Writ.{Writ}
use Rattle.gt_types.specs.declared.Range.{Range}

-- the seat took the lock of this frame, and also holds it, with these contents
abbrev pub holding : FrameAt → ℕ → FrameState → FrameHolder → FrameHolder
holding a q x v = record v { held = (q, x) ∷ v.held; locks = a ∷ v.locks }

-- the seat took the frame of this slot, whose name this is
abbrev pub TookAt : Places → FrameAt → ℕ → Me Cell FrameHolder → Me Cell FrameHolder → Type 0
TookAt b a q m m' =
    (x : FrameState) × (m' ≡ (holding a q x m.0, (q, Some x) ∷ m.1)) × (x.owner ≡ id_at b.layout.ids a.0)
    × (x.number ≡ a.1) × IsNamed b q a

-- the seat took the frame of this slot
abbrev pub Took : Places → FrameSlot → Me Cell FrameHolder → Me Cell FrameHolder → Type 0
Took b s m m' = TookAt b (slot_frame s) s.index m m'

-- the frame of the slot was taken, or another seat has it
abbrev pub Locks : Places → FrameAt → ℕ → Me Cell FrameHolder → ℕ → Me Cell FrameHolder → Type 0
Locks b a q m n m' = MatchBool (n == 0) (TookAt b a q m m') (m' ≡ m)

abbrev pub rest_held : List (ℕ × FrameState) → List (ℕ × FrameState)
rest_held [] = []
rest_held (p ∷ ps) = ps

-- the frames held, without the one taken last, or without the one before that
abbrev pub without_taken_frame : Bool → List (ℕ × FrameState) → List (ℕ × FrameState)
without_taken_frame true held = rest_held held
without_taken_frame false [] = []
without_taken_frame false (p ∷ ps) = p ∷ rest_held ps

-- the view after one more step
abbrev pub outlook_after : StepHistory → SeatStep → Outlook → Outlook
outlook_after past x o = record o { own = with_step past x o.own }

-- what a seat knows after an access, with these frames left
abbrev pub frame_holder_after : StepHistory → SeatStep → List (ℕ × FrameState) → FrameHolder → FrameHolder
frame_holder_after past x hs v = record { own = outlook_after past x v.own; held = hs; locks = v.locks }

-- these are left of the frames held without the one of this slot, which was taken last or just before the last
abbrev pub AreLeft : ℕ → FrameState → List (ℕ × FrameState) → List (ℕ × FrameState) → Type 0
AreLeft q x held hs =
    (held ≡ (q, x) ∷ hs)
    ⊎ ((p : ℕ × FrameState) × (ps : List (ℕ × FrameState)) × (held ≡ p ∷ (q, x) ∷ ps) × (hs ≡ p ∷ ps))

-- the step was taken after the history past. Words and views showed a state before each step of that history, before
-- this step and after it, and each step, this one too, is true to the steps before it
pub record Accesses (k : Layout) (v : View) (past : StepHistory) (x : SeatStep) : Type 0 where
  pub stood : StoodWith (Unit {0}) k past v
  pub still_stands : StoodWith (Unit {0}) k ((v.position, x) ∷ past) (with_step past x v)
  pub stood_before : HasStood (Unit {0}) k past
  pub recorded : IsTrueStep k past x
  pub truth : AreTrueSteps k past

-- a frame was freed by this access, and these are left
abbrev pub Frees : Places → FrameAt → FrameStep → List (ℕ × FrameState) → Me Cell FrameHolder → Me Cell FrameHolder → Type 0
Frees b n m hs me me' =
    (past : StepHistory) × (me' ≡ (frame_holder_after past (Frame n.0 n.1 m) hs me.0, rest me.1))
    × Accesses b.layout me.0.own.own past (Frame n.0 n.1 m)
    × ((x : FrameState) (q : ℕ) → IsAmong (q, x) me.0.held → (a : FrameAt) → IsNamed b q a
    → x ≡ frame_made b.layout a.0 a.1 past)

-- a frame was freed unchanged, and these are left
abbrev pub Returns : List (ℕ × FrameState) → Me Cell FrameHolder → Me Cell FrameHolder → Type 0
Returns hs me me' = me' ≡ (record me.0 { held = hs }, rest me.1)

-- the seat has the frame of this slot out, first among the slots that it carries; it took it last, or just before the
-- last
pub record IsOut (k : Layout) (s : FrameSlot) (last : Bool) (x : FrameState) (me : Me Cell FrameHolder) : Type 0 where
  pub carried : me.1 ≡ (s.index, Some x) ∷ rest me.1
  pub left : AreLeft s.index x me.0.held (without_taken_frame last me.0.held)
  pub owner : x.owner ≡ id_at k.ids s.owner
  pub number : x.number ≡ s.number

-- the access agrees with the frames that the seat holds
abbrev pub IsByHeld : Places → List (ℕ × FrameState) → FrameState → FrameStep → Type 0
IsByHeld b held x (Read off bs) = bs ≡ bytes_at x off (length bs)
IsByHeld b held x (Wrote r) = IsTrue (is_rightful x.owner x.number r)
IsByHeld b held x (Copied d f off r) =
    (p : ℕ × FrameState) × IsAmong p held × IsNamed b p.0 (d, f) × (r.bytes ≡ bytes_at p.1 off (length r.bytes))
    × IsTrue (is_rightful x.owner x.number r)

-- the seat made this step, and nothing else, right after the history past
abbrev pub AddsStep : Layout → SeatStep → Me Cell FrameHolder → Me Cell FrameHolder → Type 0
AddsStep k x me me' =
    (past : StepHistory) × (me' ≡ (record me.0 { own = outlook_after past x me.0.own }, me.1))
    × Accesses k me.0.own.own past x

-- the seat looked at the flag, whose word was n: it passed the flag, or did nothing since the flag was not raised
abbrev pub LooksAtFlag : Layout → ℕ → Me Cell FrameHolder → ℕ → Me Cell FrameHolder → Type 0
LooksAtFlag k flag me n me' = MatchBool (n == 0) (me' ≡ me) (AddsStep k (Flag flag Passed) me me')

-- a seat of this table
abbrev pub IsOf : TableId → Seat Cell FrameHolder → Type 0
IsOf z s = s.table_id ≡ z

-- the seat made this access to the frame, and nothing else: it is one step, right after the history past. By then these
-- are the locks that it took
abbrev pub Accessed : Layout → FrameAt → FrameStep → List FrameAt → Me Cell FrameHolder → Me Cell FrameHolder → Type 0
Accessed k n m locks me me' =
    (past : StepHistory)
    × (me' ≡ (record me.0 { own = outlook_after past (Frame n.0 n.1 m) me.0.own; locks = locks }, me.1))
    × Accesses k me.0.own.own past (Frame n.0 n.1 m)

-- the seat copied a range of the first frame to the second, starting at an offset, and did nothing else: it is one
-- step, with the bytes that the source had
abbrev pub CopiedBy : Layout → FrameAt → FrameAt → Writ → Range → ℕ → List FrameAt → Me Cell FrameHolder
    → Me Cell FrameHolder → Type 0
CopiedBy k a b w range to_off locks me me' =
    (bytes : List ℕ) × (length bytes ≡ range.len)
    × Accessed k b (Copied a.0 a.1 range.off (record { writ = w; off = to_off; bytes = bytes })) locks me me'

-- nothing changed, but that the seat took these locks
abbrev pub OnlyLocked : List FrameAt → Me Cell FrameHolder → Me Cell FrameHolder → Type 0
OnlyLocked locks me me' = me' ≡ (record me.0 { locks = locks }, me.1)

-- the locks of two frames, after these: that of the lower slot was taken first
abbrev pub both_locks : Bool → FrameSlot → FrameSlot → List FrameAt → List FrameAt
both_locks true source dest ns = slot_frame dest ∷ slot_frame source ∷ ns
both_locks false source dest ns = slot_frame source ∷ slot_frame dest ∷ ns

-- the two frames held, the one taken last first
abbrev pub both_held : Bool → FrameSlot → FrameState → FrameSlot → FrameState → List (ℕ × FrameState)
both_held true source x dest y = (dest.index, y) ∷ (source.index, x) ∷ []
both_held false source x dest y = (source.index, x) ∷ (dest.index, y) ∷ []

-- the seat took both frames, the one with the lower slot first, and the source is out of its slot
abbrev pub HasBoth : Layout → FrameSlot → FrameSlot → FrameState → Me Cell FrameHolder → Me Cell FrameHolder → Type 0
HasBoth k source dest x me me' =
    (y : FrameState)
    × (me' ≡ (
      record me.0 {
        held = both_held (nat_lt source.index dest.index) source x dest y;
        locks = both_locks (nat_lt source.index dest.index) source dest me.0.locks;
      },
      (dest.index, Some y) ∷ (source.index, None) ∷ [],
    ))
    × (y.owner ≡ id_at k.ids dest.owner) × (y.number ≡ dest.number) × (x.owner ≡ id_at k.ids source.owner)
    × (x.number ≡ source.number)

-- the frame that the seat took last, or the empty one if it holds none
abbrev pub held_first : List (ℕ × FrameState) → FrameState
held_first [] = record { owner = record { 0 = 0 }; number = 0; journal = [] }
held_first (p ∷ ps) = p.1

abbrev pub no_places : Places
no_places = record { layout = record { ids = []; domains = 0; first = 0; headers = [] }; names = [] }
