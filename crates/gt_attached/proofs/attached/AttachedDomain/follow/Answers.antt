use Rattle.gt_live.specs.Following.{Follows}
use Rattle.gt_attached.proofs.Beside.{beside, idle, still}
use Rattle.gt_attached.proofs.attached.AttachedDomain.follow.Goals as goal

pub returns-clause-follows : goal.returns-clause-follows
returns-clause-follows g c =
    beside (λ m d. Follows g.P.Allows.may m d c.args.gref c.args.bytes.now c.follow.result c.follow.new.self)
    c.deref.ensures c.self.view_is c.follow.ensures.follows

pub follow-requires : goal.follow-requires
follow-requires g c = record { mine = idle g.P.Allows.may c.deref.ensures c.self.view_is c.requires.idle c.self.invariant }

pub invariant_of-self : goal.invariant_of-self
invariant_of-self g c = still g.P.Allows.may c.deref.ensures c.self.view_is c.requires.idle c.follow.ensures.stays.0
