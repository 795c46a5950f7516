use Rattle.std.proofs.Common.{◌≡◌, ◌++◌, length}
use Rattle.gt_explore_search.specs.Numbers.{AllBelow, list_of_pieces}
use Rattle.gt_explore_search.specs.Parts.{Extends}
use Rattle.gt_explore_search.proofs.packed.pack.Given as goal

abbrev pub invariant-pieces : goal.invariant-pieces
invariant-pieces l = record {
  grows : Extends l.fn.pieces l.pieces;
  below : AllBelow (length l.pieces) l.out.items;
  packs : list_of_pieces l.pieces l.out.items ++ l.rest ≡ l.list;
}
