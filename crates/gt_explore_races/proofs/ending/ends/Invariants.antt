use Rattle.std.proofs.Common.{List, ◌++◌}
use Rattle.gt_explore_replay.specs.Orders.{Happening}
use Rattle.gt_explore_replay.specs.Walking.{HasWalked}
use Rattle.gt_script.specs.RunContents.{RunContents}
use Rattle.gt_explore_races.proofs.ending.ends.Given as goal

-- more has happened
abbrev pub invariant-moves : goal.invariant-moves
invariant-moves l = (c : RunContents) (hs : List Happening) → HasWalked c hs l.initial.run
    → (after : List Happening) × HasWalked c (hs ++ after) l.run
