use Rattle.gt_shared_table.specs.Rule.{slot_frame, places_of}
use Rattle.gt_shared_table.proofs.locks.take_awaited.Given as goal

abbrev pub ghosts-await_word : goal.ghosts-await_word
ghosts-await_word a = record { places = places_of a.cells.now.key; name = slot_frame a.slot; slot = a.slot.index }
