use Rattle.gt_audit.specs.declared.record.Hypercall.TheVariants as hypercalls
use Rattle.gt_model.specs.declared.request.Request.TheVariants.{QuerySize}
use Rattle.gt_live.specs.Domains.{AnswersRecorded, verdict_of_size}
use Rattle.gt_attached.proofs.Beside.{beside, idle, still}
use Rattle.gt_attached.proofs.attached.AttachedDomain.query_size.Goals as goal

pub returns-clause-answers : goal.returns-clause-answers
returns-clause-answers g c =
    beside (λ m d. AnswersRecorded g.P.Allows.may m d (QuerySize c.args.dom) (hypercalls.QuerySize c.args.dom) (verdict_of_size c.query_size.result) c.query_size.new.self)
    c.deref.ensures c.self.view_is c.query_size.ensures.answers

pub query_size-requires : goal.query_size-requires
query_size-requires g c = record { mine = idle g.P.Allows.may c.deref.ensures c.self.view_is c.requires.idle c.self.invariant }

pub invariant_of-self : goal.invariant_of-self
invariant_of-self g c = still g.P.Allows.may c.deref.ensures c.self.view_is c.requires.idle c.query_size.ensures.stays.0
