use Rattle.gt_shared_table.specs.Rule.{slot_frame, places_of}
use Rattle.gt_shared_table.specs.Recording.{held_first, without_taken_frame}
use Rattle.std.proofs.Common.{[], true}
use Rattle.gt_frames.specs.Frames.{bytes_at}
use Rattle.gt_word_history.specs.declared.view.FrameStep.TheVariants.{Copied, Read}
use Rattle.gt_shared_table.proofs.accesses.copy_within.Given as goal

abbrev pub ghosts-free_copied_within : goal.ghosts-free_copied_within
ghosts-free_copied_within g a = record { places = places_of a.cells.now.key; name = slot_frame a.slot; access = Copied a.slot.owner a.slot.number a.copy.range.off (record { writ = a.copy.writ.now; off = a.copy.to_off; bytes = bytes_at (held_first a.seat.now.me.0.held) a.copy.range.off a.copy.range.len }); left = without_taken_frame true a.seat.now.me.0.held }

abbrev pub ghosts-return_as_taken : goal.ghosts-return_as_taken
ghosts-return_as_taken g a = record { places = places_of a.cells.now.key; name = slot_frame a.slot; access = Read 0 []; left = without_taken_frame a.last a.seat.now.me.0.held }
