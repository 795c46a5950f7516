use Rattle.gt_core.proofs.{Words.setting_of, Words.core_of, Playing.ticked-all}
use Rattle.gt_core.proofs.core_state.Core.tick.Goals as goal

pub invariant_of-self : goal.invariant_of-self
invariant_of-self g c = let m = c.self.inside.machine in rw (c.tick.ensures.config, c.tick.ensures.rights)
    (ticked-all (setting_of m.config (g.P.Allows.may m.rights)) (core_of m.domains.items m.frames) c.tick.new.self.domains.items c.tick.new.self.frames c.args.dom c.tick.result c.self.invariant c.tick.ensures.stands c.tick.ensures.domains c.tick.ensures.frames)

pub returns-clause-stands : goal.returns-clause-stands
returns-clause-stands g c = rw (← c.self.view_is) c.tick.ensures.stands

pub returns-clause-kept : goal.returns-clause-kept
returns-clause-kept g c = (invariant_of-self g c).1.frames.kept
