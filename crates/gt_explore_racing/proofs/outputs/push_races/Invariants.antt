use Rattle.std.proofs.Common.{◌≡◌, ◌++◌, drop}
use Rattle.gt_explore_racing.specs.Outputs.{race_lines}
use Rattle.gt_explore_racing.proofs.outputs.push_races.Given as goal

abbrev pub invariant-races : goal.invariant-races
invariant-races l = l.initial.out.items ++ race_lines l.races ≡ l.out.items ++ race_lines (drop l.race-index l.races)
