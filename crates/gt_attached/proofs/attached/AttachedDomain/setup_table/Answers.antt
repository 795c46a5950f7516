use Rattle.gt_audit.specs.declared.record.Hypercall.TheVariants as hypercalls
use Rattle.gt_model.specs.declared.request.Request.TheVariants.{SetupTable}
use Rattle.gt_live.specs.Domains.{AnswersRecorded, verdict_of_frames}
use Rattle.gt_attached.proofs.Beside.{beside, idle, still}
use Rattle.gt_attached.proofs.attached.AttachedDomain.setup_table.Goals as goal

pub returns-clause-answers : goal.returns-clause-answers
returns-clause-answers g c =
    beside (λ m d. AnswersRecorded g.P.Allows.may m d (SetupTable c.args.frames) (hypercalls.SetupTable c.args.frames) (verdict_of_frames c.setup_table.result) c.setup_table.new.self)
    c.deref.ensures c.self.view_is c.setup_table.ensures.answers

pub setup_table-requires : goal.setup_table-requires
setup_table-requires g c = record { mine = idle g.P.Allows.may c.deref.ensures c.self.view_is c.requires.idle c.self.invariant }

pub invariant_of-self : goal.invariant_of-self
invariant_of-self g c = still g.P.Allows.may c.deref.ensures c.self.view_is c.requires.idle c.setup_table.ensures.stays.0
