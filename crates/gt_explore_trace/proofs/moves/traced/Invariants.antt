use Rattle.std.proofs.Common.{List, take}
use Rattle.gt_script.specs.RunContents.{run_contents}
use Rattle.gt_explore_replay.specs.Orders.{Happening}
use Rattle.gt_explore_replay.specs.Walking.{HasWalked}
use Rattle.gt_explore_trace.specs.Moves.{AreByTurns, AreMovesOf}
use Rattle.gt_explore_trace.proofs.moves.traced.Given as goal

-- what has happened so far, and the moves that show it, by these turns
abbrev pub invariant-turns : goal.invariant-turns
invariant-turns l = (hs : List Happening) × HasWalked (run_contents l.script) hs l.run × AreMovesOf l.moves.items hs
    × AreByTurns (run_contents l.script).head.domains (take l.turn-index l.turns) l.moves.items
