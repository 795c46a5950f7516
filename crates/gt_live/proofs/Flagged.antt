-- A step on a flag leaves all else of its domain.
use Rattle.std.proofs.Common.{◌≡◌, ℕ, Bool, true, false, refl}
use Rattle.std.specs.Prelude.{MatchBool}
use Rattle.gt_word_history.specs.Rule.{Layout}
use Rattle.gt_word_history.specs.declared.view.FlagStep.{FlagStep}
use Rattle.gt_word_history.specs.declared.view.FlagStep.TheVariants.{Passed}
use Rattle.gt_word_history.specs.declared.view.View.{View}
use Rattle.gt_words.specs.Conditions.{IsSameSeat, SeatOf}
use Rattle.gt_words.specs.Flags.{StepsOnFlag}
use Rattle.gt_live.specs.declared.domain.Domain.{Domain}
use Rattle.gt_live.specs.Driving.{IsSame}
use Rattle.gt_live.specs.Flags.{FlagStepped}
use Rattle.gt_live.proofs.Making.{kept-same, viewed_same}

pub flag-same : (k : Layout) (f : ℕ) (m : FlagStep) (v w : View) → StepsOnFlag k f m v w → IsSame v w
flag-same k f m v w a = kept-same v w _ _ a.view a.keeps

pub passed-same : (b : Bool) (k : Layout) (f : ℕ) (v w : View) → MatchBool b (StepsOnFlag k f Passed v w) (w ≡ v) → IsSame v w
passed-same true k f v w m = flag-same k f Passed v w m
passed-same false k f v w m = viewed_same v w m

pub stepped-so : (k : Layout) (f : ℕ) (m : FlagStep) (d : Domain) (s : SeatOf) → IsSameSeat d.seat s → StepsOnFlag k f m d.seat.view s.view → FlagStepped k f m d (record d { seat = s })
stepped-so k f m d s same step = record { step = step; kept = record { seat = same; own = refl; mappings = refl; trail = refl } }

pub passed-so : (b : Bool) (k : Layout) (f : ℕ) (d : Domain) (s : SeatOf) → IsSameSeat d.seat s → MatchBool b (StepsOnFlag k f Passed d.seat.view s.view) (s.view ≡ d.seat.view)
    → MatchBool b (FlagStepped k f Passed d (record d { seat = s })) (record d { seat = s } ≡ d)
passed-so true k f d s same m = stepped-so k f Passed d s same m
passed-so false k f d s same m = λ i. record d { seat = record { table = same.table i; dom = same.dom i; view = m i } }
