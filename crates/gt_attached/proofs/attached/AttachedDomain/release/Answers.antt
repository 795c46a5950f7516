use Rattle.std.specs.Prelude.{◌≡◌, IsSome, Ok}
use Rattle.gt_handles.specs.Handles.{value_of}
use Rattle.gt_live.specs.Domains.{known_on}
use Rattle.gt_attached.proofs.Beside.{beside, idle, still}
use Rattle.gt_attached.proofs.NoMapping.{released}
use Rattle.gt_attached.proofs.attached.AttachedDomain.release.Goals as goal

pub release-requires : goal.release-requires
release-requires g c = record { mine = idle g.P.Allows.may c.deref.ensures c.self.view_is c.requires.idle c.self.invariant }

pub invariant_of-self : goal.invariant_of-self
invariant_of-self g c = still g.P.Allows.may c.deref.ensures c.self.view_is c.requires.idle c.release.ensures.mine

pub returns-clause-there : goal.returns-clause-there
returns-clause-there g c =
    let may = g.P.Allows.may in let n = c.deref.result.now in let d = c.self.inside.attachment.domain in
    beside (λ m x. IsSome (value_of x.mappings c.args.handle) → c.release.result ≡ Ok tt) c.deref.ensures c.self.view_is
    (λ some. released n.words.layout (known_on may n d) d.seat.dom c.args.handle c.release.result d.seat.view c.release.new.self.seat.view some c.release.ensures.answered)
