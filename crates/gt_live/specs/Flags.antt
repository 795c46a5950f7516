-- What the steps of a domain on flags promise.
use Rattle.std.specs.Prelude.{ℕ}
use Rattle.gt_live.specs.Domains.{IsUnsettled}
use Rattle.gt_live.specs.Prelude.{Domain, Layout}
use Rattle.gt_word_history.specs.declared.view.FlagStep.{FlagStep}
use Rattle.gt_words.specs.Flags.{StepsOnFlag}

-- the domain made this step on the flag, and nothing else
pub record FlagStepped (k : Layout) (flag : ℕ) (m : FlagStep) (d e : Domain) : Type 0 where
  pub step : StepsOnFlag k flag m d.seat.view e.seat.view
  pub kept : IsUnsettled d e
