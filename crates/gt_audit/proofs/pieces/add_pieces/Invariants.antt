use Rattle.std.proofs.Common.{◌≡◌, ◌++◌, [], replicate}
use Rattle.gt_audit.proofs.pieces.add_pieces.Given as goal

abbrev pub invariant-added : goal.invariant-added
invariant-added l = l.pieces.items ≡ l.fn.pieces.items ++ replicate l.counter []
