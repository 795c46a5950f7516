use Rattle.gt_core.proofs.{Words.setting_of, Playing.begun-all, Playing.begin-does}
use Rattle.gt_core.proofs.core_state.Core.begin.Goals as goal

pub invariant_of-self : goal.invariant_of-self
invariant_of-self g c = let m = c.self.inside.machine in
    rw (c.begin.ensures.config, c.begin.ensures.rights, c.begin.ensures.frames)
    (begun-all (setting_of m.config (g.P.Allows.may m.rights)) m.domains.items c.begin.new.self.domains.items m.frames c.args.dom c.args.request c.begin.result c.self.invariant c.begin.ensures.stands c.begin.ensures.err)

pub returns-clause-stands : goal.returns-clause-stands
returns-clause-stands g c = let m = c.self.inside.machine in rw (← c.self.view_is, c.begin.ensures.frames)
    (begin-does (setting_of m.config (g.P.Allows.may m.rights)) m.domains.items c.begin.new.self.domains.items m.frames c.args.dom c.args.request c.begin.result c.begin.ensures.stands)

pub returns-clause-kept : goal.returns-clause-kept
returns-clause-kept g c = (invariant_of-self g c).1.frames.kept
