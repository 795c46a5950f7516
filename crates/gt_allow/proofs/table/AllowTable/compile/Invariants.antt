use Rattle.gt_policy.specs.Kept.{may_of}
use Rattle.gt_allow.specs.Looking.{AreRows}
use Rattle.gt_allow.proofs.table.AllowTable.compile.Given as goal

abbrev pub invariant-sources : goal.invariant-sources
invariant-sources l = AreRows (may_of l.policy) l.count l.source l.sets.items
