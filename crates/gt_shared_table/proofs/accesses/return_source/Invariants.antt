use Rattle.gt_shared_table.specs.Rule.{slot_frame, places_of}
use Rattle.gt_shared_table.specs.Recording.{without_taken_frame}
use Rattle.std.proofs.Common.{[]}
use Rattle.gt_word_history.specs.declared.view.FrameStep.TheVariants.{Read}
use Rattle.gt_shared_table.proofs.accesses.return_source.Given as goal

abbrev pub ghosts-return_as_taken : goal.ghosts-return_as_taken
ghosts-return_as_taken a = record { places = places_of a.cells.now.key; name = slot_frame a.slot; access = Read 0 []; left = without_taken_frame a.last a.seat.now.me.0.held }
