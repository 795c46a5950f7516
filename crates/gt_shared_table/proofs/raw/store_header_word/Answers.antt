use Rattle.std.proofs.Common.{◌≡◌, ◌*◌, arith}
use Rattle.gt_word_history.specs.Rule.{header_place}
use Rattle.gt_shared_table.specs.Rule.{places_of}
use Rattle.gt_shared_table.proofs.Moving.{moved_store}
use Rattle.gt_shared_table.proofs.raw.store_header_word.Goals as goal

pub store-requires : goal.store-requires
store-requires g c = let t = c.requires.table in let wide = t.1 in let inside = c.requires.inside in let k = c.requires.kind in let b = c.args.cells.now in
    let same : header_place c.args.at ≡ c.args.at * 65544 = omega arith in (
      t.0,
      omega arith,
      moved_store (places_of b.key) g.J.OfKind.kind (λ _. c.args.new) (header_place c.args.at) (c.args.at * 65544) b.table_id.slots c.args.seat.now.id c.args.seat.now.me c.args.new 0 c.requires.alone same (omega arith) k.0 k.1 k.2 c.requires.may,
    )
