use Rattle.std.proofs.Common.{◌≡◌, take}
use Rattle.gt_explore_search.specs.Numbers.{list_of_pieces}
use Rattle.gt_explore_search.proofs.packed.unpack.Given as goal

abbrev pub invariant-pieces : goal.invariant-pieces
invariant-pieces l = l.out.items ≡ list_of_pieces l.pieces (take l.piece-index l.list)
