use Rattle.std.specs.Prelude.{nat_lt}
use Rattle.gt_frames.specs.Frames.{bytes_at}
use Rattle.gt_word_history.specs.declared.view.FrameStep.{FrameStep}
use Rattle.gt_word_history.specs.declared.view.FrameStep.TheVariants.{Copied}
use Rattle.gt_shared_table.specs.Rule.{places_of}
use Rattle.gt_shared_table.specs.Recording.{IsOut}
use Rattle.gt_shared_table.proofs.Facts.{bytes_again, frees_out, is_right, moved_out, returns_out}
use Rattle.gt_shared_table.proofs.accesses.copy_out.Goals as goal

pub free_copied-requires-clause-allowed : goal.free_copied-requires-clause-allowed
free_copied-requires-clause-allowed c = let b = places_of c.args.cells.now.key in let z = c.args.cells.now.table_id in let r = c.args.copy.range in let me = c.args.seat.now.me in let x = c.in-Some.to in
    let out : IsOut b.layout c.args.slot (nat_lt c.args.source.index c.args.slot.index) x me = moved_out b.layout c.args.slot (nat_lt c.args.source.index c.args.slot.index) c.requires.out.0 me c.requires.out.1 c.slot_mut.result.now x c.slot_mut.ensures.value c.in-Some.is in
    let step : FrameStep = Copied c.args.source.owner c.args.source.number r.off (record { writ = c.args.copy.writ.now; off = c.args.copy.to_off; bytes = bytes_at c.args.from.now r.off r.len }) in
    frees_out b z.slots c.args.seat.now.id z c.args.slot (nat_lt c.args.source.index c.args.slot.index) x c.copy_between-copied.new.to me c.requires.slot out step c.in-Ok.ensures.written.journal
    ((c.args.source.index, c.args.from.now), c.requires.source.0, c.requires.source.1, bytes_again c.args.from.now r.off r.len c.owner-owner.ensures.len c.requires.ranges.0, is_right x c.copy_between-copied.new.to c.args.copy.writ.now c.args.copy.to_off (bytes_at c.args.from.now r.off r.len) c.in-Ok.ensures.written.journal c.copy_between-copied.ensures.kept)
    c.requires.mine.1

pub return_as_taken-requires-clause-allowed : goal.return_as_taken-requires-clause-allowed
return_as_taken-requires-clause-allowed c = let b = places_of c.args.cells.now.key in let z = c.args.cells.now.table_id in let me = c.args.seat.now.me in let x = c.in-Some.to in
    let out : IsOut b.layout c.args.slot (nat_lt c.args.source.index c.args.slot.index) x me = moved_out b.layout c.args.slot (nat_lt c.args.source.index c.args.slot.index) c.requires.out.0 me c.requires.out.1 c.slot_mut.result.now x c.slot_mut.ensures.value c.in-Some.is in
    returns_out b z.slots c.args.seat.now.id z c.args.slot (nat_lt c.args.source.index c.args.slot.index) x c.copy_between-copied.new.to me c.requires.slot out c.in-Err.ensures.refused
