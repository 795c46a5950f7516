use Rattle.std.proofs.Common.{◌≡◌, Some, map, take}
use Rattle.gt_explore_racing.specs.Showing.{event_of_line}
use Rattle.gt_explore_racing.proofs.lines.are_lines_of.Given as goal

abbrev pub invariant-steps : goal.invariant-steps
invariant-steps l = map event_of_line (take l.at l.steps) ≡ map (λ e. Some e) (take l.at l.events)
