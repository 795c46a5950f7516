use Rattle.gt_audit.specs.declared.record.Hypercall.TheVariants as hypercalls
use Rattle.gt_model.specs.declared.request.Request.TheVariants.{GetVersion}
use Rattle.gt_live.specs.Domains.{AnswersRecorded, verdict_of_version}
use Rattle.gt_attached.proofs.Beside.{beside, idle, still}
use Rattle.gt_attached.proofs.attached.AttachedDomain.get_version.Goals as goal

pub returns-clause-answers : goal.returns-clause-answers
returns-clause-answers g c =
    beside (λ m d. AnswersRecorded g.P.Allows.may m d (GetVersion c.args.dom) (hypercalls.GetVersion c.args.dom) (verdict_of_version c.get_version.result) c.get_version.new.self)
    c.deref.ensures c.self.view_is c.get_version.ensures.answers

pub get_version-requires : goal.get_version-requires
get_version-requires g c = record { mine = idle g.P.Allows.may c.deref.ensures c.self.view_is c.requires.idle c.self.invariant }

pub invariant_of-self : goal.invariant_of-self
invariant_of-self g c = still g.P.Allows.may c.deref.ensures c.self.view_is c.requires.idle c.get_version.ensures.stays.0
