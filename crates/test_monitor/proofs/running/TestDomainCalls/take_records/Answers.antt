use Rattle.test_monitor.proofs.running.TestDomainCalls.take_records.Goals as goal

pub invariant_of-self : goal.invariant_of-self
invariant_of-self g c = c.take_records.ensures.mine _ _ _ c.self.invariant
