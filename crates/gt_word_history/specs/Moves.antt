-- What a step of a seat requires, and what it promises: the two sides of each raw step.
use Rattle.std.specs.Prelude.{◌≡◌, ℕ, []}
use mathlib.Core.Option.{none}
use Rattle.atomic_table.specs.Table.{step}
use Rattle.gt_word_history.specs.Prelude.{Allows, View}
use Rattle.gt_word_history.specs.History.{StepHistory}
use Rattle.gt_word_history.specs.Rule.{Shows}
use Rattle.gt_word_history.specs.Steps.{StepKind, TakesStep, promises_step}
use Rattle.gt_word_history.specs.Views.{with_step}

-- a seat with the view v may take a step of this kind on the word at this index: from each state that words and views
-- show, the step leads to another such state
abbrev pub MayTake : StepKind → ℕ → View → Type 0
MayTake d at v =
    (slots id : ℕ) → Allows {S = Unit {0}} (Shows d.layout) slots id (v, []) at d.leaves
    (promises_step d (step slots at 0 0 none) (v, []))

-- the seat with the view v took one step of this kind, which found the number n in the word at this index; its view is
-- then w: v with that step, and nothing else
abbrev pub Takes : StepKind → ℕ → ℕ → View → View → Type 0
Takes d at n v w =
    (past : StepHistory) × (w ≡ with_step past (d.step n) v)
    × TakesStep (Unit {0}) d.layout v past (d.step n) at n (d.leaves n)

-- the same for a store, which does not report what it found
abbrev pub TakesStored : StepKind → ℕ → View → View → Type 0
TakesStored d at v w = (found : ℕ) × Takes d at found v w
