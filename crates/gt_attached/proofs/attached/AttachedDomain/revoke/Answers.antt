use Rattle.gt_model.specs.declared.request.Request.TheVariants.{Revoke}
use Rattle.gt_live.specs.Domains.{AnswersQuietly, verdict_of}
use Rattle.gt_attached.proofs.Beside.{beside, idle, still}
use Rattle.gt_attached.proofs.attached.AttachedDomain.revoke.Goals as goal

pub returns-clause-answers : goal.returns-clause-answers
returns-clause-answers g c =
    beside (λ m d. AnswersQuietly g.P.Allows.may m d (Revoke c.args.gref) (verdict_of c.revoke.result) c.revoke.new.self)
    c.deref.ensures c.self.view_is c.revoke.ensures.answers

pub revoke-requires : goal.revoke-requires
revoke-requires g c = record { mine = idle g.P.Allows.may c.deref.ensures c.self.view_is c.requires.idle c.self.invariant }

pub invariant_of-self : goal.invariant_of-self
invariant_of-self g c = still g.P.Allows.may c.deref.ensures c.self.view_is c.requires.idle c.revoke.ensures.stays.0
