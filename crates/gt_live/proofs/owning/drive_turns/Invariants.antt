use Rattle.gt_calls.specs.Known.{knows}
use Rattle.gt_model.specs.declared.action.Action.TheVariants as actions
use Rattle.gt_model.specs.declared.action.Step.TheVariants.{LookControl}
use Rattle.gt_calls.specs.declared.call.Phase.TheVariants.{Looking}
use Rattle.gt_words.specs.Conditions.{IsSeatOf, IsSameSeat}
use Rattle.gt_live.specs.Owning.{asks_change}
use Rattle.gt_live.specs.Driving.{Going}
use Rattle.gt_live.specs.declared.driving.Effect.TheVariants.{Nothing}
use Rattle.gt_live.proofs.Stepping.{call_in}
use Rattle.gt_live.proofs.owning.drive_turns.Given as goal

abbrev pub invariant-turns : goal.invariant-turns
invariant-turns g l = record {
  seat : IsSeatOf l.words l.seat;
  same : IsSameSeat l.fn.seat l.seat;
  going : Going (knows g.P.Allows.may l.known) l.words.layout Nothing l.fn.seat.view l.seat.view
      (call_in l.caller (asks_change l.gref l.change) (Looking l.gref l.change l.more)) (actions.Step (LookControl l.caller l.gref));
}

abbrev pub decreases-turns : goal.decreases-turns
decreases-turns g l = l.more
