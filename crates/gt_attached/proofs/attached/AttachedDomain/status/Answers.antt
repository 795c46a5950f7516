use Rattle.gt_live.specs.Closing.{LooksAtOwn}
use Rattle.gt_attached.proofs.Beside.{beside, idle, still}
use Rattle.gt_attached.proofs.attached.AttachedDomain.status.Goals as goal

pub status-requires : goal.status-requires
status-requires g c = record { mine = idle g.P.Allows.may c.deref.ensures c.self.view_is c.requires.idle c.self.invariant }

pub returns-clause-looks : goal.returns-clause-looks
returns-clause-looks g c =
    beside (λ m d. LooksAtOwn m.words.layout d c.args.gref c.status.result c.status.new.self) c.deref.ensures c.self.view_is c.status.ensures.looks

pub invariant_of-self : goal.invariant_of-self
invariant_of-self g c = still g.P.Allows.may c.deref.ensures c.self.view_is c.requires.idle c.status.ensures.stays.0
