use Rattle.gt_shared_table.proofs.Names.{in_order}
use Rattle.gt_shared_table.proofs.Upwards.{no_ring, upwards}
use Rattle.gt_shared_table.proofs.laws.seats_never_wait_in_a_ring.Goals as goal

pub returns : goal.returns
returns c = record { slots = in_order; upwards = upwards; no_ring = no_ring }
