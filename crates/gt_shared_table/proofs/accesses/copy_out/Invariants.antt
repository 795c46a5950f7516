use Rattle.gt_shared_table.specs.Rule.{slot_frame, places_of}
use Rattle.gt_shared_table.specs.Recording.{without_taken_frame}
use Rattle.std.proofs.Common.{[]}
use Rattle.std.specs.Prelude.{nat_lt}
use Rattle.gt_frames.specs.Frames.{bytes_at}
use Rattle.gt_word_history.specs.declared.view.FrameStep.TheVariants.{Copied, Read}
use Rattle.gt_shared_table.proofs.accesses.copy_out.Given as goal

abbrev pub ghosts-free_copied : goal.ghosts-free_copied
ghosts-free_copied a = record { places = places_of a.cells.now.key; name = slot_frame a.slot; access = Copied a.source.owner a.source.number a.copy.range.off (record { writ = a.copy.writ.now; off = a.copy.to_off; bytes = bytes_at a.from.now a.copy.range.off a.copy.range.len }); left = without_taken_frame (nat_lt a.source.index a.slot.index) a.seat.now.me.0.held }

abbrev pub ghosts-return_as_taken : goal.ghosts-return_as_taken
ghosts-return_as_taken a = record { places = places_of a.cells.now.key; name = slot_frame a.slot; access = Read 0 []; left = without_taken_frame a.last a.seat.now.me.0.held }
