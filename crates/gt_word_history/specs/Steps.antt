-- One atomic step: what it adds to its seat's view, and the state in which it is taken.
use Rattle.std.specs.Prelude.{◌≡◌, ℕ, ◌+◌, ◌-◌, ◌%◌, ◌^◌, cond, ◌==◌, ◌∷◌}
use Rattle.gt_word_history.specs.Prelude.{some, get_elem?, either, State, Me, changed_entry, raise_of, idle_word_of}
use Rattle.gt_word_history.specs.Prelude.{unit_of, EntryChange, Dir, EntryStep, ChangeMissed, Changed, Looked}
use Rattle.gt_word_history.specs.Prelude.{PinMissed, Pinned, ReadBody, StoredBody, Unpinned, BodyWord, HeaderStep}
use Rattle.gt_word_history.specs.Prelude.{Purpose, EntryRecord, SeatStep, View}
use Rattle.atomic_table.specs.Table.{Step as TableStep}
use Rattle.gt_word_history.specs.Controls.{demoted_word, invalid_word, promoted_word, withdrawn_word}
use Rattle.gt_word_history.specs.Events.{Happens}
use Rattle.gt_word_history.specs.History.{StepHistory, PinsLast, RecordsWord, word_after}
pub use Rattle.gt_word_history.specs.History.{body_word_index}
use Rattle.gt_word_history.specs.Rule.{HasStood, Layout, Stands}
use Rattle.gt_word_history.specs.Views.{last_of, last_seen, record_seen, with_step}
use Rattle.gt_model.specs.declared.change.EntryChange.TheVariants as changes
use Rattle.gt_word_history.specs.declared.view.Purpose.TheVariants as purposes
use Rattle.gt_word_history.specs.declared.view.HeaderStep.TheVariants as header
use Rattle.gt_word_history.specs.declared.view.SeatStep.TheVariants as seat_steps

-- words and views, the view v among them, showed a state after these steps of all seats
abbrev pub StoodWith : Type 0 → Layout → StepHistory → View → Type 0
StoodWith S k past v = (z : State S View) × Stands k past z × (get_elem? z.views v.position ≡ some v)

-- the seat with the view v takes the step x on this word, after the history past. Words and views showed a state before
-- each step of that history, before this step and after it. The step finds the number that the history makes of the
-- word, records it, and leaves the other. A pin is of the last record then. The step takes the state that the history
-- makes to what the core's event gives
pub record TakesStep (S : Type 0) (k : Layout) (v : View) (past : StepHistory) (x : SeatStep)
    (word found left : ℕ) : Type 0 where
  pub stood : StoodWith S k past v
  pub still_stands : StoodWith S k ((v.position, x) ∷ past) (with_step past x v)
  pub stood_before : HasStood S k past
  pub found_is : word_after k past word ≡ found
  pub left_is : word_after k ((v.position, x) ∷ past) word ≡ left
  pub recorded : RecordsWord x found
  pub of_last : PinsLast k past x
  pub happens : Happens k v.position x past

-- a step on the entry r of the domain t
abbrev pub on_entry : ℕ → ℕ → EntryStep → SeatStep
on_entry t r m = seat_steps.Entry t r m

-- a step on the header of the domain t
abbrev pub on_header : ℕ → HeaderStep → SeatStep
on_header t m = seat_steps.Header t m

-- a kind of step: the step and the number that it leaves, each by the number found
pub record StepKind : Type 0 where
  pub layout : Layout
  pub step : ℕ → SeatStep
  pub leaves : ℕ → ℕ

-- what a step of this kind promises: its view gained the step, which was taken on words and views that show a state
abbrev pub promises_step : {S : Type 0} → StepKind → TableStep S → Me S View → ℕ → Me S View → Type 0
promises_step {S} d st m n m' =
    (m'.1 ≡ m.1) × ((past : StepHistory) × (m'.0 ≡ with_step past (d.step n) m.0)
    × TakesStep S d.layout m.0 past (d.step n) st.word n (d.leaves n))

-- the same for a store, which does not report what it found
abbrev pub promises_stored : {S : Type 0} → StepKind → TableStep S → Me S View → Me S View → Type 0
promises_stored {S} d st m m' = (found : ℕ) × promises_step {S = S} d st m found m'

-- the kinds of step

-- a kind of step on the entry r of the domain t, by what it adds to the view and what it leaves
abbrev pub entry_kind : Layout → ℕ → ℕ → (ℕ → EntryStep) → (ℕ → ℕ) → StepKind
entry_kind k t r m f = record { layout = k; step = λ n. on_entry t r (m n); leaves = f }

-- a look at a control word: the word stays (C11 atomics: atomic_load)
abbrev pub looking : Layout → ℕ → ℕ → StepKind
looking k t r = entry_kind k t r (λ n. Looked n) (λ n. n)

-- a look at a body word: the word stays (C11 atomics: atomic_load)
abbrev pub reading : Layout → ℕ → ℕ → BodyWord → StepKind
reading k t r h = entry_kind k t r (λ n. ReadBody h n) (λ n. n)

-- a store of a body word: the word is the one stored (C11 atomics: atomic_store)
abbrev pub storing : Layout → ℕ → ℕ → BodyWord → ℕ → StepKind
storing k t r h v = entry_kind k t r (λ n. StoredBody h v) (λ n. v)

-- a release of a pin: the word has one pin less, modulo 2 to the 64th (C11 atomics: atomic_fetch_sub)
abbrev pub unpinning : Layout → ℕ → ℕ → Dir → ℕ → StepKind
unpinning k t r d g = entry_kind k t r (λ n. Unpinned d g) (λ n. (n + (2 ^ 64 - unit_of d)) % 2 ^ 64)

-- a look at a header word: the word stays (C11 atomics: atomic_load)
abbrev pub looking_at_header : Layout → ℕ → StepKind
looking_at_header k t = record { layout = k; step = λ n. on_header t (header.Looked n); leaves = λ n. n }

-- a store of a header word: the word is the one stored (C11 atomics: atomic_store)
abbrev pub storing_header : Layout → ℕ → ℕ → StepKind
storing_header k t w = record { layout = k; step = λ n. on_header t (header.Stored w); leaves = λ n. w }

-- the record after an owner's change
abbrev pub changed : EntryChange → EntryRecord → EntryRecord
changed c x = record { generation = x.generation + raise_of c; entry = changed_entry c x.entry }

-- the word that an owner's exchange stores instead of this one, if the last record is x: for a publication the idle
-- word of the entry at the next generation; for a revocation the invalid word of the same generation; for a withdrawal
-- the same with its pins; else the word with the other readonly at the next generation
abbrev pub changed_word : EntryChange → EntryRecord → ℕ → ℕ
changed_word (changes.Publish e) x word = idle_word_of e (x.generation + 1)
changed_word changes.Revoke x word = invalid_word word
changed_word changes.Withdraw x word = withdrawn_word word
changed_word changes.Demote x word = demoted_word word
changed_word changes.Promote x word = promoted_word word

-- the step of a taken exchange
abbrev pub taken : ℕ → ℕ → View → Purpose → ℕ → ℕ → EntryStep
taken t r v (purposes.Pin d) old new = Pinned d old (record_seen (last_seen t r v))
taken t r v (purposes.Change c) old new = Changed c old new (changed c (last_of r v))

-- the step of a missed exchange
abbrev pub missed : Purpose → ℕ → ℕ → ℕ → EntryStep
missed (purposes.Pin d) old new n = PinMissed d old new n
missed (purposes.Change c) old new n = ChangeMissed c old new n

-- an exchange of a control word: it is taken, and the word is then the new one, exactly if the expected one is found
-- (C11 atomics: atomic_compare_exchange_strong)
abbrev pub exchanging : Layout → ℕ → ℕ → View → Purpose → ℕ → ℕ → StepKind
exchanging k t r v p old new =
    entry_kind k t r (λ n. cond (n == old) (taken t r v p old new) (missed p old new n)) (λ n. either (n == old) new n)
