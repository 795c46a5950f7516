use Rattle.std.proofs.Common.{arith}
use Rattle.gt_explore_tracing.proofs.Blocks.{counted-all, counted-more}
use Rattle.gt_explore_tracing.proofs.fewest.blocks_of.Goals as goal

pub moves-preserved : goal.moves-preserved
moves-preserved c =
    let one = c.begun_by-blocks.ensures.one in record {
      counted = counted-more c.args.moves.now c.moves.at c.index-moves-at.result c.moves.last c.moves.blocks c.begun_by-blocks.result _ c.moves-test.true c.index-moves-at.is c.begun_by-blocks.ensures.begun c.moves.invariant.counted;
      few = omega (arith, one);
    }

pub returns : goal.returns
returns c = counted-all c.args.moves.now c.moves.at c.moves.last c.moves.blocks _ c.moves-test.false c.moves.invariant.counted
