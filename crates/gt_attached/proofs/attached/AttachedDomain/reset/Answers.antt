use Rattle.gt_live.specs.Closing.{Resets}
use Rattle.gt_attached.proofs.Beside.{beside, idle, still}
use Rattle.gt_attached.proofs.attached.AttachedDomain.reset.Goals as goal

pub reset-in_use-requires : goal.reset-in_use-requires
reset-in_use-requires g c = record { mine = idle g.P.Allows.may c.deref.ensures c.self.view_is c.requires.idle c.self.invariant }

pub returns-clause-resets : goal.returns-clause-resets
returns-clause-resets g c =
    beside (λ m d. Resets g.P.Allows.may m d c.reset-in_use.result c.reset-in_use.new.self) c.deref.ensures c.self.view_is c.reset-in_use.ensures.resets

pub invariant_of-self : goal.invariant_of-self
invariant_of-self g c = still g.P.Allows.may c.deref.ensures c.self.view_is c.requires.idle c.reset-in_use.ensures.mine
