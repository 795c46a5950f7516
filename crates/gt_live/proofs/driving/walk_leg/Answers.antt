use Rattle.std.proofs.Common.{subst, sym}
use Rattle.gt_words.specs.Conditions.{SeatOf}
use Rattle.gt_live.specs.Legs.{CanWalkLeg}
use Rattle.gt_live.proofs.driving.walk_leg.Goals as goal

pub walk_leg_at-requires-clause-can : goal.walk_leg_at-requires-clause-can
walk_leg_at-requires-clause-can c =
    subst (λ (s : SeatOf). CanWalkLeg c.args.words.now.layout c.args.leg.now s.view) (sym c.position-at.ensures.seat)
    c.requires.can
