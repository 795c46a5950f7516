use Rattle.std.proofs.Common.{◌≡◌, drop, false}
use Rattle.gt_explore_moves.specs.RunLengths.{flags_of_runs}
use Rattle.gt_explore_moves.proofs.flag_runs.FlagRuns.is_of.Given as goal

abbrev pub invariant-runs : goal.invariant-runs
invariant-runs l = flags_of_runs l.is_raised (drop l.len-index l.len-items) ≡ l.rest → flags_of_runs false l.len-items ≡ l.flags
