use Rattle.std.proofs.Common.{refl, ap, true}
use Rattle.gt_frames.specs.Receipts.{Reading}
use Rattle.gt_word_history.specs.declared.view.FrameStep.TheVariants.{Read}
use Rattle.gt_shared_table.specs.Rule.{places_of}
use Rattle.gt_shared_table.specs.Recording.{IsOut}
use Rattle.gt_shared_table.proofs.Facts.{bytes_are, frees_out, moved_out}
use Rattle.gt_shared_table.proofs.accesses.read_out_to.Goals as goal

pub free_read_to-requires-clause-allowed : goal.free_read_to-requires-clause-allowed
free_read_to-requires-clause-allowed c = let r = c.read_to-read in let b = places_of c.args.cells.now.key in let z = c.args.cells.now.table_id in let me = c.args.seat.now.me in let x = c.in-Some.frame in
    let out : IsOut b.layout c.args.slot true x me = moved_out b.layout c.args.slot true c.requires.out.0 me c.requires.out.1 c.slot_mut.result.now x c.slot_mut.ensures.value c.in-Some.is in
    frees_out b z.slots c.args.seat.now.id z c.args.slot true x x me c.requires.slot out (Read c.args.off r.result.bytes) refl
    (bytes_are x x c.args.off _ r.result.bytes r.result.bytes refl refl (ap (λ (d : Reading). d.bytes) r.ensures.read) r.ensures.len)
    c.requires.mine.1
