-- Consequences of the rules, for callers.
use Rattle.std.specs.Prelude.{◌≡◌, ◌≢◌, ℕ, ◌<◌, List, [], ◌∷◌, ◌==◌, false, length, take, slice_index, slice_set, Some}
use mathlib.Core.Option.{some}
use prog.Atomic.{either}
use lib.ListN.{get_elem?}
use Rattle.atomic_table.specs.Table.{State, Me, Allows, opening, Step as TableStep, stepped, keeps, takes, gives, rest}
use Rattle.gt_word_history.specs.History.{Layout, StepHistory, header_place}
use Rattle.gt_word_history.specs.Joining.{TableHolds, promises_own}
use Rattle.gt_word_history.specs.Steps.{StepKind}
use Rattle.gt_word_history.specs.declared.view.FlagStep.TheVariants.{Raised}
use Rattle.gt_word_history.specs.declared.view.FrameStep.{FrameStep}
use Rattle.gt_word_history.specs.declared.view.Outlook.{Outlook}
use Rattle.gt_word_history.specs.declared.view.SeatStep.TheVariants.{Flag, Frame}
use Rattle.gt_word_history.specs.declared.view.SeatStep.{SeatStep}
use Rattle.gt_frames.specs.Frames.{FrameState}
use Rattle.gt_types.specs.declared.config.Config.{Config}
use Rattle.gt_shared_table.specs.declared.rule.FrameHolder.{FrameHolder}
use Rattle.gt_shared_table.specs.Bytes.{IsAside, IsOnWords, IsTrueStep, journal_by}
use Rattle.gt_shared_table.specs.Rule.{Cell, FrameAt, HoldsAll, IsNamed, FramesAreKept, Places}
use Rattle.gt_shared_table.specs.Rule.{flag_place, lock_place, made, newcomer, places_of}
use Rattle.gt_shared_table.specs.Recording.{AddsStep, AreLeft, Frees, IsByHeld, Locks, LooksAtFlag, outlook_after}

-- a seat may access any frame next, and raise or pass a flag; words and views then show a state, and the step is the
-- new end of the history
abbrev pub AccessesGoOn : Type 0
AccessesGoOn =
    (k : Layout) (z : State (Unit {0}) Outlook) (holds : TableHolds k z) (id : ℕ) (o : Outlook)
    → get_elem? z.views id ≡ some o
    → o.gone ≡ false → (x : SeatStep) → IsAside x
    → (after : TableHolds k (record {
      words = z.words;
      homes = z.homes;
      views = slice_set z.views id (outlook_after holds.shown.history x o);
    }))
    × (after.shown.history ≡ (id, x) ∷ holds.shown.history)

abbrev pub FramesStay : Type 0
FramesStay =
    (b : Places) (h : StepHistory) (s : State Cell FrameHolder) (kept : FramesAreKept b h s) (id : ℕ) (v : FrameHolder)
    → get_elem? s.views id ≡ some v → (x : SeatStep) → IsOnWords x → (w : FrameHolder) → w.held ≡ v.held → (i n : ℕ)
    → i < header_place b.layout.domains → (c : List (ℕ × Cell)) → FramesAreKept b ((id, x) ∷ h) (stepped s i n id c w keeps)

abbrev pub FramesAreTaken : Type 0
FramesAreTaken =
    (b : Places) (h : StepHistory) (s : State Cell FrameHolder) (kept : FramesAreKept b h s) (id : ℕ) (v : FrameHolder)
    → get_elem? s.views id ≡ some v → (q : ℕ) (n : FrameAt) → IsNamed b q n → (y : Cell)
    → get_elem? s.homes q ≡ some (some y) → q < length b.names → (w : FrameHolder) → w.held ≡ (q, made b h n) ∷ v.held
    → (k : ℕ) → k ≢ 0 → (c : List (ℕ × Cell)) → FramesAreKept b h (stepped s (lock_place b q) k id c w (takes q y))

abbrev pub FramesComeBack : Type 0
FramesComeBack =
    (b : Places) (h : StepHistory) (s : State Cell FrameHolder) (kept : FramesAreKept b h s) (id : ℕ) (v : FrameHolder)
    → get_elem? s.views id ≡ some v → (q : ℕ) (n : FrameAt) → IsNamed b q n → (x : FrameState)
    (hs : List (ℕ × FrameState)) → AreLeft q x v.held hs → (m : FrameStep) (y : FrameState)
    → y ≡ record x { journal = journal_by m x.journal } → IsTrueStep b.layout h (Frame n.0 n.1 m) → (w : FrameHolder)
    → w.held ≡ hs → (c : List (ℕ × Cell))
    → FramesAreKept b ((id, Frame n.0 n.1 m) ∷ h) (stepped s (lock_place b q) 0 id ((q, Some y) ∷ c) w gives)

-- a lock may be tried at any time: the frame is taken if the word is 0
abbrev pub FramesAreLocked : Type 0
FramesAreLocked =
    (b : Places) (slots id : ℕ) (me : Me Cell FrameHolder) (q : ℕ) (n : FrameAt) → IsNamed b q n → q < length b.names
    → Allows (HoldsAll b) slots id me (lock_place b q) (λ w. either (w == 0) 1 w)
    (λ w m. Locks b n q me w m)

-- the same by a step that leaves the mark of a frame for which a seat may wait
abbrev pub FramesAreAwaited : Type 0
FramesAreAwaited =
    (b : Places) (slots id : ℕ) (me : Me Cell FrameHolder) (q : ℕ) (n : FrameAt) → IsNamed b q n → q < length b.names
    → Allows (HoldsAll b) slots id me (lock_place b q) (λ _. 2) (λ w m. Locks b n q me w m)

-- the frame that the seat carries first may be freed by an access
abbrev pub FramesAreFreed : Type 0
FramesAreFreed =
    (b : Places) (slots id : ℕ) (me : Me Cell FrameHolder) (q : ℕ) (n : FrameAt) → IsNamed b q n → (x : FrameState)
    (hs : List (ℕ × FrameState)) → AreLeft q x me.0.held hs → (y : FrameState) (c : List (ℕ × Cell))
    → me.1 ≡ (q, Some y) ∷ c → (m : FrameStep) → y ≡ record x { journal = journal_by m x.journal }
    → IsByHeld b me.0.held x m → me.0.own.gone ≡ false
    → Allows (HoldsAll b) slots id me (lock_place b q) (λ _. 0) (λ _ m'. Frees b n m hs me m')

-- every step on words that the rule of the words allows is allowed here, and promises the same
abbrev pub WordsAreStepped : Type 0
WordsAreStepped =
    (b : Places) (slots id : ℕ) (me : Me Cell FrameHolder) (at : ℕ) (f : ℕ → ℕ) (d : StepKind) (st : TableStep (Unit {0}))
    → me.0.own.gone ≡ false → at < header_place b.layout.domains → ((n : ℕ) → IsOnWords (d.step n))
    → Allows (TableHolds b.layout) slots id (me.0.own, []) at f (promises_own d st (me.0.own, []))
    → Allows (HoldsAll b) slots id me at f
    (λ n m. promises_own d st (me.0.own, []) n (m.0.own, []) × (m.0.held ≡ me.0.held) × (m.1 ≡ me.1)
    × (m.0.locks ≡ me.0.locks))

-- the rule holds at the start, if the rule of the words does, no frame has two slots, each slot has its frame of zeros,
-- and no flag is raised
abbrev pub FramesOpen : Type 0
FramesOpen =
    (b : Places) (ws : List ℕ) (xs : List Cell) (o : Outlook)
    (words : TableHolds b.layout (opening (take (header_place b.layout.domains) ws) [] o)) → words.shown.history ≡ []
    → ((i j : ℕ) (n : FrameAt) → IsNamed b i n → IsNamed b j n → i ≡ j)
    → ((q : ℕ) (n : FrameAt) → IsNamed b q n → get_elem? xs q ≡ some (Some (made b [] n)))
    → ((q : ℕ) → q < length b.names → q < length xs) → ((q : ℕ) → q < length b.names → lock_place b q < length ws)
    → ((f : ℕ) → slice_index ws (flag_place b f) ≡ 0)
    → HoldsAll b (opening ws xs (newcomer o))

-- a seat may raise a flag at any time
abbrev pub FlagsMayBeRaised : Type 0
FlagsMayBeRaised =
    (b : Places) (slots id : ℕ) (me : Me Cell FrameHolder) (f : ℕ) → me.0.own.gone ≡ false
    → Allows (HoldsAll b) slots id me (flag_place b f) (λ _. 1) (λ _ m. AddsStep b.layout (Flag f Raised) me m)

-- a seat may look at a flag at any time: it passes the flag if the word is not 0
abbrev pub FlagsArePassed : Type 0
FlagsArePassed =
    (b : Places) (slots id : ℕ) (me : Me Cell FrameHolder) (f : ℕ) → me.0.own.gone ≡ false
    → Allows (HoldsAll b) slots id me (flag_place b f) (λ w. w) (λ w m. LooksAtFlag b.layout f me w m)

-- the frame that the seat carries first may be freed unchanged, and no view gains a step
abbrev pub FramesAreReturned : Type 0
FramesAreReturned =
    (b : Places) (slots id : ℕ) (me : Me Cell FrameHolder) (q : ℕ) (n : FrameAt) → IsNamed b q n → (x : FrameState)
    (hs : List (ℕ × FrameState)) → AreLeft q x me.0.held hs → (c : List (ℕ × Cell)) → me.1 ≡ (q, Some x) ∷ c
    → Allows (HoldsAll b) slots id me (lock_place b q) (λ _. 0) (λ _ m'. m' ≡ (record me.0 { held = hs }, rest me.1))

-- no name is at two positions of the list
abbrev pub AreDistinctFrames : List FrameAt → Type 0
AreDistinctFrames xs = (i j : ℕ) (m : FrameAt) → get_elem? xs i ≡ some m → get_elem? xs j ≡ some m → i ≡ j

-- no frame of a configuration has two slots
abbrev pub FramesHaveOneSlot : Type 0
FramesHaveOneSlot = (c : Config) → AreDistinctFrames (places_of c).names
