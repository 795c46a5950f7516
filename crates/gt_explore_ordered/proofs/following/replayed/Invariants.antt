use Rattle.std.proofs.Common.{◌≡◌, List, map}
use Rattle.gt_explore_replay.specs.Orders.{Happening}
use Rattle.gt_explore_replay.specs.Walking.{HasWalked}
use Rattle.gt_script.specs.RunContents.{run_contents}
use Rattle.gt_explore_ordered.specs.Holding.{move_shown}
use Rattle.gt_explore_ordered.proofs.following.replayed.Given as goal

-- what has happened so far, and its moves
abbrev pub invariant-turns : goal.invariant-turns
invariant-turns l = (hs : List Happening) × HasWalked (run_contents l.script) hs l.run × (l.moves.items ≡ map move_shown hs)
