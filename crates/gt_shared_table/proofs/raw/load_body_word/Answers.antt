use Rattle.std.proofs.Common.{◌≡◌, ◌+◌, ◌*◌, arith}
use Rattle.gt_word_history.specs.Rule.{place}
use Rattle.gt_word_history.specs.Steps.{body_word_index}
use Rattle.gt_shared_table.specs.Rule.{places_of}
use Rattle.gt_shared_table.proofs.Moving.{moved}
use Rattle.gt_shared_table.proofs.raw.load_body_word.Goals as goal

pub load-requires : goal.load-requires
load-requires g c = let t = c.requires.table in let wide = t.1 in let inside = c.requires.inside in let k = c.requires.kind in let b = c.args.cells.now in let e = c.args.entry in let i = c.index_of.ensures in let index = i.index in let few = i.inside in
    let same : place e.position e.gref (body_word_index c.args.body_word) ≡ e.position * 65544 + e.gref * 8 + 8 + c.index_of.result = omega arith in (
      t.0,
      omega arith,
      moved (places_of b.key) g.J.OfKind.kind (λ n. n) (place e.position e.gref (body_word_index c.args.body_word)) (e.position * 65544 + e.gref * 8 + 8 + c.index_of.result) b.table_id.slots c.args.seat.now.id c.args.seat.now.me 0 0 c.requires.alone same (omega arith) k.0 k.1 k.2 c.requires.may,
    )
