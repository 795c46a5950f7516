use Rattle.std.proofs.Common.{◌≡◌, ◌≤◌, ◌+◌, drop}
use Rattle.gt_explore_tracing.specs.MoveBlocks.{move_blocks}
use Rattle.gt_explore_tracing.proofs.Blocks.{begun_from}
use Rattle.gt_explore_tracing.proofs.fewest.blocks_of.Given as goal

abbrev pub invariant-moves : goal.invariant-moves
invariant-moves l = record {
  counted : move_blocks l.moves ≡ l.blocks + begun_from l.last (drop l.at l.moves);
  few : l.blocks ≤ l.at;
}
