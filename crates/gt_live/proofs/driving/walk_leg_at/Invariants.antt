use Rattle.gt_calls.specs.declared.leg.LegNext.TheVariants.{Going}
use Rattle.gt_calls.specs.declared.leg.LegPhase.TheVariants.{Look}
use Rattle.gt_words.specs.Conditions.{IsSeatOf, IsSameSeat}
use Rattle.gt_live.specs.Legs.{WalksLeg}
use Rattle.gt_live.proofs.driving.walk_leg_at.Given as goal

abbrev pub invariant-tries : goal.invariant-tries
invariant-tries l = record {
  seat : IsSeatOf l.words l.seat;
  same : IsSameSeat l.fn.seat l.seat;
  going : WalksLeg l.words.layout l.leg l.fn.seat.view (Going (Look l.more)) l.seat.view;
}

abbrev pub decreases-tries : goal.decreases-tries
decreases-tries l = l.more
