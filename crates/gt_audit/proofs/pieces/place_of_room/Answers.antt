use Rattle.std.proofs.Common.{◌≡◌, ◌+◌, ◌∙◌, ap, sym, arith, length, get_or, [], add-one, List}
use Rattle.std.proofs.lemmas.Bool.{eqb-true}
use Rattle.gt_audit.specs.declared.record.Record.{Record}
use Rattle.gt_audit.proofs.Joining.{after-empty, filled-next}
use Rattle.gt_audit.proofs.pieces.place_of_room.Goals as goal

pub returns-then-is_full-clause-filled : goal.returns-then-is_full-clause-filled
returns-then-is_full-clause-filled c =
    let piece : List Record = c.index-pieces-at.result in
    let full : length piece ≡ 256 = eqb-true _ _ (sym c.is_full.ensures.full ∙ c.if-is_full.true) in
    let at : length (get_or c.args.pieces.now c.args.at piece) ≡ 256 =
    ap (λ (p : List Record). length p) (sym c.index-pieces-at.is) ∙ full in
    rw add-one (filled-next c.args.at c.args.pieces.now piece c.requires (omega arith) at)

pub returns-then-is_full-clause-room : goal.returns-then-is_full-clause-room
returns-then-is_full-clause-room c = λ lt.
    omega (arith, after-empty c.args.at (c.args.at + 1) c.args.pieces.now [] c.requires (omega arith) lt)
