-- Flags, on which domains wait for one another.
use Rattle.std.specs.Prelude.{◌≡◌, ◌⊎◌, ℕ, [], ◌∷◌}
use Rattle.gt_word_history.specs.History.{StepHistory}
use Rattle.gt_word_history.specs.declared.view.FlagStep.TheVariants.{Passed, Raised}
use Rattle.gt_word_history.specs.declared.view.SeatStep.{SeatStep}
use Rattle.gt_word_history.specs.declared.view.SeatStep.TheVariants.{Entry, Flag, Frame, Header}

-- the step raises this flag
abbrev pub Raises : ℕ → SeatStep → Type 0
Raises flag (Entry t r m) = ⊥
Raises flag (Header t m) = ⊥
Raises flag (Frame t f m) = ⊥
Raises flag (Flag f Raised) = f ≡ flag
Raises flag (Flag f Passed) = ⊥

-- some step of the history raised this flag
abbrev pub IsRaised : ℕ → StepHistory → Type 0
IsRaised flag [] = ⊥
IsRaised flag (p ∷ h) = Raises flag p.1 ⊎ IsRaised flag h
