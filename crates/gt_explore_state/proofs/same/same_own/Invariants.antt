use Rattle.std.proofs.Common.{◌≡◌, ◌<◌, ℕ, get_or}
use Rattle.gt_calls.specs.declared.known.OwnerEntry.{OwnerEntry}
use Rattle.gt_explore_state.specs.declared.rows.TableRow.{TableRow}
use Rattle.gt_explore_state.proofs.same.same_own.Given as goal

abbrev pub invariant-rows : goal.invariant-rows
invariant-rows l = (k : ℕ) (d : TableRow OwnerEntry) → k < l.at → get_or l.other k d ≡ get_or l.one k d
