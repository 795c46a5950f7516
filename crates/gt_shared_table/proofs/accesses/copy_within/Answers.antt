use Rattle.std.proofs.Common.{Some, true, ap, ◌∙◌}
use Rattle.atomic_table.specs.Table.{Me}
use Rattle.gt_shared_table.specs.declared.rule.FrameHolder.{FrameHolder}
use Rattle.gt_shared_table.specs.Rule.{Cell, places_of}
use Rattle.gt_shared_table.specs.Recording.{IsOut}
use Rattle.gt_shared_table.proofs.Upwards.{none_below}
use Rattle.gt_shared_table.proofs.Facts.{frees_within, is_out, moved_out, returns_out}
use Rattle.gt_shared_table.proofs.accesses.copy_within.Goals as goal

pub slot_mut-requires : goal.slot_mut-requires
slot_mut-requires g c = let t = c.lock.ensures.took in
    (c.lock.ensures.seat.0 ∙ c.requires.mine.0, (Some t.0, (is_out (places_of c.args.cells.now.key) c.args.slot c.args.seat.now.me c.lock.new.seat.me t).carried))

pub free_copied_within-requires-clause-allowed : goal.free_copied_within-requires-clause-allowed
free_copied_within-requires-clause-allowed g c = let b = places_of c.args.cells.now.key in let z = c.args.cells.now.table_id in let r = c.args.copy.range in let me = c.lock.new.seat.me in let x = c.in-Some.frame in let t = c.lock.ensures.took in
    let out : IsOut b.layout c.args.slot true x me = moved_out b.layout c.args.slot true t.0 me (is_out b c.args.slot c.args.seat.now.me me t) c.slot_mut.result.now x c.slot_mut.ensures.value c.in-Some.is in
    frees_within b z.slots c.lock.new.seat.id z c.args.slot c.args.seat.now.me me t c.requires.slot x c.copy_within-copied.new.self out
    c.args.copy.writ.now r.off r.len c.args.copy.to_off c.owner-owner.ensures.len c.requires.ranges.0 c.in-Ok.ensures.written.journal c.copy_within-copied.ensures.kept
    (ap (λ (m : Me Cell FrameHolder). m.0.own.gone) t.1 ∙ c.requires.mine.1)

pub return_as_taken-requires-clause-allowed : goal.return_as_taken-requires-clause-allowed
return_as_taken-requires-clause-allowed g c = let b = places_of c.args.cells.now.key in let z = c.args.cells.now.table_id in let me = c.lock.new.seat.me in let x = c.in-Some.frame in let t = c.lock.ensures.took in
    let out : IsOut b.layout c.args.slot true x me = moved_out b.layout c.args.slot true t.0 me (is_out b c.args.slot c.args.seat.now.me me t) c.slot_mut.result.now x c.slot_mut.ensures.value c.in-Some.is in
    returns_out b z.slots c.lock.new.seat.id z c.args.slot true x c.copy_within-copied.new.self me c.requires.slot out c.in-Err.ensures.refused

pub lock-requires-clause-upwards : goal.lock-requires-clause-upwards
lock-requires-clause-upwards g c = none_below c.args.slot.index c.args.seat.now.me.0.held c.requires.free.1
