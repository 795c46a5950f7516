use Rattle.std.specs.Arc.{arc_value}
use Rattle.gt_attached.proofs.Beside.{idle, stands-there}
use Rattle.gt_attached.proofs.attached.AttachedDomain.copy_begin_at.Goals as goal

pub copy_begin-begun-requires : goal.copy_begin-begun-requires
copy_begin-begun-requires g c = record { mine = idle g.P.Allows.may c.deref.ensures c.self.view_is c.requires.idle c.self.invariant }

pub invariant_of-self : goal.invariant_of-self
invariant_of-self g c =
    stands-there g.P.Allows.may c.deref.result.now (arc_value c.self.inside.monitor) c.self.inside.attachment.domain c.copy_begin-begun.new.self c.args.copy.now c.copy_begin-begun.new.pending
    c.deref.ensures (idle g.P.Allows.may c.deref.ensures c.self.view_is c.requires.idle c.self.invariant) c.in-Ok.ensures.comes
