use Rattle.std.proofs.Common.{refl}
use Rattle.std.specs.Arc.{arc_value}
use Rattle.gt_attached.proofs.Beside.{idle, still}
use Rattle.gt_attached.proofs.attached.AttachedDomain.take_records.Goals as goal

pub invariant_of-self : goal.invariant_of-self
invariant_of-self g c =
    let m = arc_value c.self.inside.monitor in let may = g.P.Allows.may m.rights in
    still g.P.Allows.may refl c.self.view_is c.requires.idle
    (c.take_records-none.ensures.mine m.words m.config may
    (c.take_records-records.ensures.mine m.words m.config may (idle g.P.Allows.may refl c.self.view_is c.requires.idle c.self.invariant)))
