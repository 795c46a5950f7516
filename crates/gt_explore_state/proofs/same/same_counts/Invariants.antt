use Rattle.std.proofs.Common.{◌≡◌, ◌<◌, ℕ, get_or}
use Rattle.gt_core.specs.declared.pin_counts.PinCounts.{PinCounts}
use Rattle.gt_explore_state.specs.declared.rows.TableRow.{TableRow}
use Rattle.gt_explore_state.proofs.same.same_counts.Given as goal

abbrev pub invariant-rows : goal.invariant-rows
invariant-rows l = (k : ℕ) (d : TableRow PinCounts) → k < l.at → get_or l.other k d ≡ get_or l.one k d
