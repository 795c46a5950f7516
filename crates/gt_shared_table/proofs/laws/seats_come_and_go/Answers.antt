use Rattle.gt_shared_table.proofs.SeatsKept.{dealt, taken_in}
use Rattle.gt_shared_table.proofs.laws.seats_come_and_go.Goals as goal

pub returns-clause-dealt : goal.returns-clause-dealt
returns-clause-dealt c = dealt

pub returns-clause-taken_in : goal.returns-clause-taken_in
returns-clause-taken_in c = taken_in
