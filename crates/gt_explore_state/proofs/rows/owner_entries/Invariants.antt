use Rattle.std.proofs.Common.{◌-◌, length, drop}
use Rattle.gt_explore_state.specs.Rows.{ListsEntries}
use Rattle.gt_explore_state.proofs.rows.owner_entries.Given as goal

abbrev pub invariant-rows : goal.invariant-rows
invariant-rows l = ListsEntries l.first_gen (drop (length l.own - l.done) l.own) l.list.items
