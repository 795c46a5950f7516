use Rattle.gt_model.specs.declared.request.Request.TheVariants.{GrantBytes}
use Rattle.gt_live.specs.Domains.{AnswersQuietly, verdict_of}
use Rattle.gt_attached.proofs.Beside.{beside, idle, still}
use Rattle.gt_attached.proofs.attached.AttachedDomain.grant_bytes.Goals as goal

pub returns-clause-answers : goal.returns-clause-answers
returns-clause-answers g c =
    beside (λ m d. AnswersQuietly g.P.Allows.may m d (GrantBytes c.args.gref c.args.bytes) (verdict_of c.grant_bytes.result) c.grant_bytes.new.self)
    c.deref.ensures c.self.view_is c.grant_bytes.ensures.answers

pub grant_bytes-requires : goal.grant_bytes-requires
grant_bytes-requires g c = record { mine = idle g.P.Allows.may c.deref.ensures c.self.view_is c.requires.idle c.self.invariant }

pub invariant_of-self : goal.invariant_of-self
invariant_of-self g c = still g.P.Allows.may c.deref.ensures c.self.view_is c.requires.idle c.grant_bytes.ensures.stays.0
