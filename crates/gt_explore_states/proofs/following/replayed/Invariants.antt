use Rattle.std.proofs.Common.{List, take}
use Rattle.gt_explore_replay.specs.Abreast.{history_in}
use Rattle.gt_explore_replay.specs.Orders.{Happening}
use Rattle.gt_explore_replay.specs.Walking.{HasWalked}
use Rattle.gt_explore_state.specs.Shows.{IsSettingOf, TablesShow}
use Rattle.gt_script.specs.RunContents.{run_contents}
use Rattle.gt_script_runs.specs.Playing.{setting_of_script}
use Rattle.gt_types.specs.Config.{IsWithinLimits}
use Rattle.gt_explore_states.specs.Moments.{AreTurnsOf}
use Rattle.gt_explore_states.proofs.following.replayed.Given as goal

-- what has happened so far, and the tables that it left
abbrev pub invariant-turns : goal.invariant-turns
invariant-turns l = IsSettingOf l.roster (setting_of_script (run_contents l.script).head) → IsWithinLimits l.roster
    → (hs : List Happening) × HasWalked (run_contents l.script) hs l.run
    × AreTurnsOf (run_contents l.script) (take l.turn-index l.turns) hs
    × TablesShow (setting_of_script (run_contents l.script).head) (history_in hs) l.ground.tables.items
