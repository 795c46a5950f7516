use Rattle.gt_model.specs.declared.request.Request.TheVariants.{Promote}
use Rattle.gt_live.specs.Domains.{AnswersQuietly, verdict_of}
use Rattle.gt_attached.proofs.Beside.{beside, idle, still}
use Rattle.gt_attached.proofs.attached.AttachedDomain.promote.Goals as goal

pub returns-clause-answers : goal.returns-clause-answers
returns-clause-answers g c =
    beside (λ m d. AnswersQuietly g.P.Allows.may m d (Promote c.args.gref) (verdict_of c.promote.result) c.promote.new.self)
    c.deref.ensures c.self.view_is c.promote.ensures.answers

pub promote-requires : goal.promote-requires
promote-requires g c = record { mine = idle g.P.Allows.may c.deref.ensures c.self.view_is c.requires.idle c.self.invariant }

pub invariant_of-self : goal.invariant_of-self
invariant_of-self g c = still g.P.Allows.may c.deref.ensures c.self.view_is c.requires.idle c.promote.ensures.stays.0
