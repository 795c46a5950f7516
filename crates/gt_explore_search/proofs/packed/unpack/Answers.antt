use Rattle.std.proofs.Common.{List, ℕ, ap, ◌∙◌, ◌+◌, ◌++◌, get_or, take}
use Rattle.std.proofs.lemmas.List.{take_more}
use Rattle.gt_explore_search.proofs.Packing.{unpack_step}
use Rattle.gt_explore_search.proofs.packed.unpack.Goals as goal

pub pieces-preserved : goal.pieces-preserved
pieces-preserved c =
    unpack_step c.args.pieces.now (take (c.pieces.piece-index + 1) c.args.list.now) (take c.pieces.piece-index c.args.list.now) c.pieces.out.items c.extend_from_slice.new.self.items (get_or c.args.list.now c.pieces.piece-index 0)
    c.pieces.invariant (take_more c.args.list.now c.pieces.piece-index 0 c.pieces-test.true)
    (c.in_ok-extend_from_slice.ensures.items ∙ ap (λ (l : List ℕ). c.pieces.out.items ++ l) c.piece_at.ensures)
