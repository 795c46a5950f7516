use Rattle.gt_explore_search.proofs.Keeping.{both_more, kept_more, length_grown}
use Rattle.gt_explore_search.proofs.Packing.{pack_below, pack_step}
use Rattle.gt_explore_search.proofs.packed.pack.Goals as goal

pub pieces-preserved : goal.pieces-preserved
pieces-preserved c =
    let more = kept_more c.pieces.pieces c.first_piece.result.0.now c.in_ok-number_near.field-0 c.number_near.new.self c.in_ok-number_near.ensures.kept in
    record {
      grows = both_more c.args.pieces.now c.pieces.pieces c.number_near.new.self c.pieces.invariant.grows more;
      below = pack_below c.pieces.pieces c.number_near.new.self c.pieces.out.items c.push.new.self.items c.first_piece.result.0.now c.in_ok-number_near.field-0 c.in_ok-number_near.ensures.kept (length_grown c.pieces.pieces c.number_near.new.self more) c.pieces.invariant.below c.in_ok-push.ensures.items;
      packs = pack_step c.pieces.pieces c.number_near.new.self c.pieces.out.items c.push.new.self.items c.pieces.rest.now c.first_piece.result.0.now c.first_piece.result.1.now c.args.list.now c.in_ok-number_near.field-0 c.in_ok-number_near.ensures.kept c.pieces.invariant.below c.pieces.invariant.packs c.first_piece.ensures c.in_ok-push.ensures.items;
    }
