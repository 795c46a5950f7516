use Rattle.gt_shared_table.specs.Rule.{slot_frame, places_of}
use Rattle.gt_shared_table.specs.Recording.{without_taken_frame}
use Rattle.std.proofs.Common.{[], true}
use Rattle.gt_word_history.specs.declared.view.FrameStep.TheVariants.{Read, Wrote}
use Rattle.gt_shared_table.proofs.accesses.write_out.Given as goal

abbrev pub ghosts-free_written : goal.ghosts-free_written
ghosts-free_written a = record { places = places_of a.cells.now.key; name = slot_frame a.slot; access = Wrote (record { writ = a.write.writ.now; off = a.write.off; bytes = a.write.bytes.now }); left = without_taken_frame true a.seat.now.me.0.held }

abbrev pub ghosts-return_as_taken : goal.ghosts-return_as_taken
ghosts-return_as_taken a = record { places = places_of a.cells.now.key; name = slot_frame a.slot; access = Read 0 []; left = without_taken_frame a.last a.seat.now.me.0.held }
