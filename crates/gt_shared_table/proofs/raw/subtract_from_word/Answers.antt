use Rattle.std.proofs.Common.{◌≡◌, ◌+◌, ◌*◌, arith, ℕ, ◌-◌, ◌%◌, ◌^◌, ap, sym, ◌∙◌}
use Rattle.gt_word_history.specs.Rule.{place}
use Rattle.gt_shared_table.specs.Rule.{places_of}
use Rattle.gt_shared_table.proofs.Moving.{moved}
use Rattle.gt_shared_table.proofs.raw.subtract_from_word.Goals as goal

pub fetch_sub-requires : goal.fetch_sub-requires
fetch_sub-requires g c = let t = c.requires.table in let wide = t.1 in let inside = c.requires.inside in let k = c.requires.kind in let b = c.args.cells.now in let e = c.args.entry in
    let same : place e.position e.gref 0 ≡ e.position * 65544 + e.gref * 8 + 8 = omega arith in (
      t.0,
      omega arith,
      moved (places_of b.key) g.J.OfKind.kind (λ n. (n + (2 ^ 64 - c.pin_unit.result)) % 2 ^ 64) (place e.position e.gref 0) (e.position * 65544 + e.gref * 8 + 8) b.table_id.slots c.args.seat.now.id c.args.seat.now.me c.pin_unit.result 0 c.requires.alone same (omega arith) k.0 (k.1 ∙ ap (λ (u : ℕ). (λ (n : ℕ). (n + (2 ^ 64 - u)) % 2 ^ 64)) (sym c.pin_unit.ensures)) k.2 c.requires.may,
    )
