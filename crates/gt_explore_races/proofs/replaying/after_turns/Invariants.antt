use Rattle.gt_script.specs.RunContents.{run_contents}
use Rattle.gt_explore_races.specs.Replays.{HasApproached}
use Rattle.gt_explore_races.proofs.replaying.after_turns.Given as goal

abbrev pub invariant-turns : goal.invariant-turns
invariant-turns l = HasApproached (run_contents l.script) l.first l.second l.near
