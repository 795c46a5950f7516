use Rattle.gt_explore_replay.proofs.Releasing.{releases-are-ok}
use Rattle.gt_explore_replay.proofs.laws.every_release_is_ok.Goals as goal

pub returns : goal.returns
returns c = releases-are-ok
