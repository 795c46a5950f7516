use Rattle.gt_shared_table.specs.Rule.{slot_frame, places_of}
use Rattle.gt_shared_table.specs.Recording.{without_taken_frame}
use Rattle.std.proofs.Common.{true}
use Rattle.gt_word_history.specs.declared.view.FrameStep.TheVariants.{Read}
use Rattle.gt_shared_table.proofs.accesses.read_out_to.Given as goal

abbrev pub ghosts-free_read_to : goal.ghosts-free_read_to
ghosts-free_read_to a = record { places = places_of a.cells.now.key; name = slot_frame a.slot; access = Read a.off a.read.now.bytes; left = without_taken_frame true a.seat.now.me.0.held }
