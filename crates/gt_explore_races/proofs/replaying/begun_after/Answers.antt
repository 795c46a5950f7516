use Rattle.gt_explore_races.proofs.Remade.{others-begin}
use Rattle.gt_explore_races.proofs.replaying.begun_after.Goals as goal

pub returns-then-mover-place : goal.returns-then-mover-place
returns-then-mover-place c = λ d hs r has on. others-begin d hs c.args.place c.args.mover c.args.moved.now r c.args.begun has on c.if-mover-place.true
