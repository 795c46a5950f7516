use Rattle.std.proofs.Common.{◌≡◌, drop}
use Rattle.gt_explore_state.specs.Rows.{value_at}
use Rattle.gt_explore_state.proofs.rows.value_at.Given as goal

abbrev pub invariant-rows : goal.invariant-rows
invariant-rows g l = value_at l.rows l.gref.0 ≡ value_at (drop l.row-index l.rows) l.gref.0
