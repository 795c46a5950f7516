use Rattle.std.proofs.Common.{take}
use Rattle.gt_explore_moves.proofs.RunLengths.{HaveRuns}
use Rattle.gt_explore_moves.proofs.flag_runs.FlagRuns.of.Given as goal

abbrev pub invariant-flags : goal.invariant-flags
invariant-flags l = HaveRuns l.runs.items l.is_raised l.len (take l.flag-index l.flags)
