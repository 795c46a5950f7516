-- What the rule of the table implies for the order of all steps.
use Rattle.std.specs.Prelude.{◌≡◌, ℕ, ◌*◌, ◌<◌, [], ◌∷◌, length, slice_index}
use Rattle.atomic_table.specs.Table.{keeps, stepped}
use Rattle.gt_word_history.specs.Prelude.{Allows, DOMAIN_WORDS, Me, SeatStep, State, View, get_elem?, some}
use Rattle.gt_word_history.specs.History.{IsOwners, Layout, PinsLast, RecordsWord, StepHistory, word_place_of}
use Rattle.gt_word_history.specs.Rule.{Shows}
use Rattle.gt_word_history.specs.Views.{with_step}

-- a step that leads from a state that words and views show to another such state comes right after all steps before it:
-- its seat knows them, it records the word that is there, it stores or changes only what its seat owns, and it takes a
-- pin only of the last record
abbrev pub StepsAreTakenThen : Type 0
StepsAreTakenThen =
    (k : Layout) (s : State (Unit {0}) View) (i : ℕ) (v : View) (x : SeatStep) (past : StepHistory) (at left : ℕ)
    (shown : Shows k s) (after : Shows k (stepped s at left i [] (with_step past x v) keeps))
    → get_elem? s.views i ≡ some v
    → (past ≡ shown.history) × (after.history ≡ (i, x) ∷ shown.history) × IsOwners i x
    × PinsLast k shown.history x × (word_place_of x < k.domains * DOMAIN_WORDS
    → RecordsWord x (slice_index s.words (word_place_of x)))

-- if a raw step of the table is allowed that adds the step x to its seat's view, by the number found, then x records
-- the word that is there, in every state that words and views show: so no body can report a step on a word that it did
-- not find
abbrev pub AllowedStepsRecordWhatIsThere : Type 0
AllowedStepsRecordWhatIsThere =
    (k : Layout) (slots id : ℕ) (me : Me (Unit {0}) View) (at : ℕ) (f : ℕ → ℕ) (x : ℕ → SeatStep)
    (s : State (Unit {0}) View) → Shows k s
    → Allows (Shows k) slots id me at f (λ n m. (past : StepHistory) × (m.0 ≡ with_step past (x n) me.0))
    → length s.homes ≡ slots → get_elem? s.views id ≡ some me.0 → slice_index s.words at < 18446744073709551616
    → let step : SeatStep = x (slice_index s.words at) in
    word_place_of step < k.domains * DOMAIN_WORDS → RecordsWord step (slice_index s.words (word_place_of step))

-- the views that words and views show determine the history
abbrev pub HistoryIsOne : Type 0
HistoryIsOne =
    (k : Layout) (s z : State (Unit {0}) View) (shown : Shows k s) (also : Shows k z) → s.views ≡ z.views
    → shown.history ≡ also.history
