use Rattle.std.proofs.Common.{take}
use Rattle.gt_explore_state.specs.Copies.{AreTablesOf}
use Rattle.gt_explore_state.proofs.copies.first_tables.Given as goal

abbrev pub invariant-domains : goal.invariant-domains
invariant-domains l = AreTablesOf (take l.domain-index l.domains) l.tables.items
