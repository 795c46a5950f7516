use Rattle.gt_attached.proofs.Beside.{at-access}
use Rattle.gt_attached.proofs.attached.AttachedDomain.copy_end.Goals as goal

pub copy_end-left-requires : goal.copy_end-left-requires
copy_end-left-requires g c =
    record { pending = at-access g.P.Allows.may c.self.inside.attachment.is_copying c.self.inside.attachment.pending c.deref.ensures c.self.view_is c.requires.copying c.self.invariant }
