use Rattle.std.proofs.Common.{◌≡◌, ◌++◌, drop, false}
use Rattle.gt_explore_moves.specs.RunLengths.{flags_of_runs}
use Rattle.gt_explore_moves.proofs.flag_runs.FlagRuns.append_to.Given as goal

abbrev pub invariant-runs : goal.invariant-runs
invariant-runs l = l.flags.items ++ flags_of_runs l.is_raised (drop l.len-index l.len-items) ≡ l.fn.flags.items ++ flags_of_runs false l.len-items
