use Rattle.gt_attached.proofs.Beside.{idle, still}
use Rattle.gt_attached.proofs.attached.AttachedDomain.map_at.Goals as goal

pub map_with_pin-requires : goal.map_with_pin-requires
map_with_pin-requires g c = record { mine = idle g.P.Allows.may c.deref.ensures c.self.view_is c.requires.idle c.self.invariant }

pub invariant_of-self : goal.invariant_of-self
invariant_of-self g c = still g.P.Allows.may c.deref.ensures c.self.view_is c.requires.idle c.map_with_pin.ensures.mine
