use Rattle.test_monitor.proofs.running.TestDomainCalls.reserve_records.Goals as goal

pub invariant_of-self : goal.invariant_of-self
invariant_of-self g c =
    let m = c.self.inside.monitor.now in c.reserve_records.ensures.mine m.words m.config (g.P.Allows.may m.rights) c.self.invariant
