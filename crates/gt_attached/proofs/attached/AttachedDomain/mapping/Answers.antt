use Rattle.gt_attached.proofs.Beside.{idle}
use Rattle.gt_attached.proofs.attached.AttachedDomain.mapping.Goals as goal

pub mapping-requires : goal.mapping-requires
mapping-requires g c = record { mine = idle g.P.Allows.may c.deref.ensures c.self.view_is c.requires.idle c.self.invariant }
