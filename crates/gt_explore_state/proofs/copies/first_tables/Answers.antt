use Rattle.gt_explore_state.proofs.Copying.{first-step}
use Rattle.gt_explore_state.proofs.copies.first_tables.Goals as goal

pub domains-preserved : goal.domains-preserved
domains-preserved c = first-step c.args.domains.now c.domains.tables.items c.push.new.self.items c.domains.domain-index _ c.first_table.result c.domains-test.true c.domains.invariant c.first_table.ensures c.in_ok-push.ensures.items
