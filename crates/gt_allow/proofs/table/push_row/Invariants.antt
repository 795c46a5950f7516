use Rattle.std.proofs.Common.{◌≡◌, ◌++◌, List}
use Rattle.gt_types.specs.declared.perms.Perms.{Perms}
use Rattle.gt_allow.specs.Looking.{IsRow}
use Rattle.gt_allow.proofs.table.push_row.Given as goal

abbrev pub invariant-targets : goal.invariant-targets
invariant-targets l = (added : List Perms) × (l.sets.items ≡ l.initial.sets.items ++ added) × IsRow l.row l.target added
