use Rattle.gt_audit.specs.declared.record.Hypercall.TheVariants as hypercalls
use Rattle.gt_model.specs.declared.request.Request.TheVariants.{SetVersion}
use Rattle.gt_live.specs.Domains.{AnswersRecorded, verdict_of}
use Rattle.gt_attached.proofs.Beside.{beside, idle, still}
use Rattle.gt_attached.proofs.attached.AttachedDomain.set_version.Goals as goal

pub returns-clause-answers : goal.returns-clause-answers
returns-clause-answers g c =
    beside (λ m d. AnswersRecorded g.P.Allows.may m d (SetVersion c.args.version) (hypercalls.SetVersion c.args.version) (verdict_of c.set_version.result) c.set_version.new.self)
    c.deref.ensures c.self.view_is c.set_version.ensures.answers

pub set_version-requires : goal.set_version-requires
set_version-requires g c = record { mine = idle g.P.Allows.may c.deref.ensures c.self.view_is c.requires.idle c.self.invariant }

pub invariant_of-self : goal.invariant_of-self
invariant_of-self g c = still g.P.Allows.may c.deref.ensures c.self.view_is c.requires.idle c.set_version.ensures.stays.0
