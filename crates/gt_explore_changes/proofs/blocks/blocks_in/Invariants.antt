use Rattle.std.proofs.Common.{◌≡◌, ◌≤◌, drop}
use Rattle.gt_explore_changes.specs.Blocks.{blocks_after, blocks_in}
use Rattle.gt_explore_changes.proofs.blocks.blocks_in.Given as goal

abbrev pub invariant-loop-at : goal.invariant-loop-at
invariant-loop-at l = (blocks_in l.turns ≡ blocks_after l.last l.blocks (drop l.at l.turns)) × (l.blocks ≤ l.at)
