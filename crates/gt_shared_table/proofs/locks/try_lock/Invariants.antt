use Rattle.gt_shared_table.specs.Rule.{slot_frame, places_of}
use Rattle.gt_shared_table.proofs.locks.try_lock.Given as goal

abbrev pub ghosts-lock_word : goal.ghosts-lock_word
ghosts-lock_word a = record { places = places_of a.cells.now.key; name = slot_frame a.slot; slot = a.slot.index }
