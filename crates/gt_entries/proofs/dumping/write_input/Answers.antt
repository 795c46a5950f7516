use Rattle.gt_entries.proofs.DumpLemmas.{told_all, untold}
use Rattle.gt_entries.proofs.dumping.write_input.Goals as goal

pub returns-in-Ok : goal.returns-in-Ok
returns-in-Ok g c = λ all e. told_all _ _ all _ _ _ _ e c.in-Ok.ensures.few c.in-Ok.ensures.gives (rw c.as_slice.ensures.value at c.write_dump.ensures)

pub returns-in-Err : goal.returns-in-Err
returns-in-Err g c = λ all e. untold _ _ all _ _ e c.in-Err.ensures.fault
