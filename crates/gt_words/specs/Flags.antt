-- What the calls on flags promise.
use Rattle.std.specs.Prelude.{◌≡◌, ℕ}
use Rattle.gt_shared_table.specs.Recording.{Accesses}
use Rattle.gt_word_history.specs.Events.{TookPlace}
use Rattle.gt_word_history.specs.History.{StepHistory}
use Rattle.gt_word_history.specs.Rule.{Layout}
use Rattle.gt_word_history.specs.Views.{with_step}
use Rattle.gt_word_history.specs.declared.view.FlagStep.{FlagStep}
use Rattle.gt_word_history.specs.declared.view.SeatStep.TheVariants.{Flag}
use Rattle.gt_word_history.specs.declared.view.View.{View}
use Rattle.gt_words.specs.Keeping.{Keeps}

-- the seat made this step on the flag, at its moment, and nothing else: a flag that it passed was raised before
-- (Accesses). The seat knows the same of the words as before
pub record StepsOnFlag (k : Layout) (flag : ℕ) (m : FlagStep) (v w : View) : Type 0 where
  pub past : StepHistory
  pub view : w ≡ with_step past (Flag flag m) v
  pub access : Accesses k v past (Flag flag m)
  pub took : TookPlace k v.position (past, Flag flag m)
  pub keeps : Keeps v w
