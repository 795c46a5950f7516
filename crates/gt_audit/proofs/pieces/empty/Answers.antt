use Rattle.std.proofs.Common.{arith}
use Rattle.gt_audit.proofs.Joining.{cleared, filled-cleared}
use Rattle.gt_audit.proofs.pieces.empty.Goals as goal

pub returns-clause-filled : goal.returns-clause-filled
returns-clause-filled c =
    filled-cleared c.pieces.pieces.items (cleared c.pieces.pieces.items (λ k lt. c.pieces.invariant.1 k (omega (arith, c.pieces.invariant.0, lt))))

pub returns-clause-records : goal.returns-clause-records
returns-clause-records c = cleared c.pieces.pieces.items (λ k lt. c.pieces.invariant.1 k (omega (arith, c.pieces.invariant.0, lt)))
