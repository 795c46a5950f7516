use Rattle.std.proofs.Common.{true}
use Rattle.gt_word_history.specs.declared.view.FrameStep.TheVariants.{Wrote}
use Rattle.gt_shared_table.specs.Rule.{places_of}
use Rattle.gt_shared_table.specs.Recording.{IsOut}
use Rattle.gt_shared_table.proofs.Facts.{frees_out, is_right, moved_out, returns_out}
use Rattle.gt_shared_table.proofs.accesses.write_out.Goals as goal

pub free_written-requires-clause-allowed : goal.free_written-requires-clause-allowed
free_written-requires-clause-allowed c = let b = places_of c.args.cells.now.key in let z = c.args.cells.now.table_id in let me = c.args.seat.now.me in let x = c.in-Some.frame in
    let out : IsOut b.layout c.args.slot true x me = moved_out b.layout c.args.slot true c.requires.out.0 me c.requires.out.1 c.slot_mut.result.now x c.slot_mut.ensures.value c.in-Some.is in
    frees_out b z.slots c.args.seat.now.id z c.args.slot true x c.write-written.new.self me c.requires.slot out
    (Wrote (record { writ = c.args.write.writ.now; off = c.args.write.off; bytes = c.args.write.bytes.now })) c.in-Ok.ensures.written.journal
    (is_right x c.write-written.new.self c.args.write.writ.now c.args.write.off c.args.write.bytes.now c.in-Ok.ensures.written.journal c.write-written.ensures.kept) c.requires.mine.1

pub return_as_taken-requires-clause-allowed : goal.return_as_taken-requires-clause-allowed
return_as_taken-requires-clause-allowed c = let b = places_of c.args.cells.now.key in let z = c.args.cells.now.table_id in let me = c.args.seat.now.me in let x = c.in-Some.frame in
    let out : IsOut b.layout c.args.slot true x me = moved_out b.layout c.args.slot true c.requires.out.0 me c.requires.out.1 c.slot_mut.result.now x c.slot_mut.ensures.value c.in-Some.is in
    returns_out b z.slots c.args.seat.now.id z c.args.slot true x c.write-written.new.self me c.requires.slot out c.in-Err.ensures.refused
