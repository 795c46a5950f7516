use Rattle.std.proofs.Common.{List}
use Rattle.gt_script.specs.RunContents.{run_contents}
use Rattle.gt_explore_replay.proofs.Following.{FollowsAny}
use Rattle.gt_explore_replay.specs.Orders.{Happening}
use Rattle.gt_explore_replay.specs.Walking.{HasWalked}
use Rattle.gt_explore_replay.proofs.replay.text_of.Given as goal

abbrev pub invariant-turns : goal.invariant-turns
invariant-turns l = record {
  walked : (hs : List Happening) × HasWalked (run_contents l.script) hs l.run;
  follows : FollowsAny (run_contents l.script) l.script.flags l.turns l.turn-index l.run;
}
