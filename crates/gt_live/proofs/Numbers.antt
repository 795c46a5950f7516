-- The tries of a call, counted.
use Rattle.std.proofs.Common.{refl}
use Rattle.gt_live.specs.Tries.{ChangesMakeFourTries, LegsMakeFourTries}
use Rattle.gt_model.specs.Path.{tries, turns}

pub legs_four : LegsMakeFourTries
unfolding tries
legs_four l refused pinned = refl

pub changes_four : ChangesMakeFourTries
unfolding turns
changes_four change caller gref = refl
