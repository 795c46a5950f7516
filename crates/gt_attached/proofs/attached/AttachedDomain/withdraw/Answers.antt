use Rattle.gt_model.specs.declared.request.Request.TheVariants.{Withdraw}
use Rattle.gt_live.specs.Domains.{AnswersQuietly, verdict_of}
use Rattle.gt_attached.proofs.Beside.{beside, idle, still}
use Rattle.gt_attached.proofs.attached.AttachedDomain.withdraw.Goals as goal

pub returns-clause-answers : goal.returns-clause-answers
returns-clause-answers g c =
    beside (λ m d. AnswersQuietly g.P.Allows.may m d (Withdraw c.args.gref) (verdict_of c.withdraw.result) c.withdraw.new.self)
    c.deref.ensures c.self.view_is c.withdraw.ensures.answers

pub withdraw-requires : goal.withdraw-requires
withdraw-requires g c = record { mine = idle g.P.Allows.may c.deref.ensures c.self.view_is c.requires.idle c.self.invariant }

pub invariant_of-self : goal.invariant_of-self
invariant_of-self g c = still g.P.Allows.may c.deref.ensures c.self.view_is c.requires.idle c.withdraw.ensures.stays.0
