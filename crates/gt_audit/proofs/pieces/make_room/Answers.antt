use Rattle.std.proofs.Common.{◌≡◌, ◌∙◌, arith, ap, length, subst, sym, List}
use Rattle.gt_audit.specs.declared.record.Record.{Record}
use Rattle.gt_audit.specs.Pieces.{AreFilled, HasRoomAt, joined}
use Rattle.gt_audit.proofs.Joining.{added-room, full-joined, joined-add, place-fits}
use Rattle.gt_audit.proofs.pieces.make_room.Goals as goal

pub returns-in-Ok-clause-place : goal.returns-in-Ok-clause-place
returns-in-Ok-clause-place c =
    let n = c.place_of_room-place.result in
    let ps : List (List Record) = c.args.pieces.now.items in
    let filled : AreFilled n ps =
    subst (λ (qs : List (List Record)). AreFilled n qs) c.deref.ensures.value c.place_of_room-place.ensures.filled in
    let last : n ≡ length ps = omega (arith, place-fits n ps filled) in
    subst (λ (qs : List (List Record)). HasRoomAt n qs) (sym c.in-Ok.ensures.added) (added-room n ps filled last)

pub returns-in-Ok-clause-records : goal.returns-in-Ok-clause-records
returns-in-Ok-clause-records c =
    ap (λ (qs : List (List Record)). joined qs) c.in-Ok.ensures.added ∙ joined-add c.args.pieces.now.items

pub returns-in-Err-clause-no_room : goal.returns-in-Err-clause-no_room
returns-in-Err-clause-no_room c =
    let n = c.place_of_room-place.result in
    let ps : List (List Record) = c.args.pieces.now.items in
    let filled : AreFilled n ps =
    subst (λ (qs : List (List Record)). AreFilled n qs) c.deref.ensures.value c.place_of_room-place.ensures.filled in
    omega (arith, full-joined n ps filled (omega (arith, place-fits n ps filled)))
