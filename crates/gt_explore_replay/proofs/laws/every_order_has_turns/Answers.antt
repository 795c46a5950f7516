use Rattle.gt_explore_replay.proofs.Turning.{has-turns}
use Rattle.gt_explore_replay.proofs.laws.every_order_has_turns.Goals as goal

pub returns : goal.returns
returns c k hs text apart order = has-turns k hs text apart order
