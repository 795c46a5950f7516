use Rattle.gt_audit.specs.declared.record.Hypercall.TheVariants as hypercalls
use Rattle.gt_model.specs.declared.request.Request.TheVariants as requests
use Rattle.gt_live.specs.Domains.{verdict_of}
use Rattle.gt_live.proofs.Recorded.{recorded, recorded-stays}
use Rattle.gt_live.proofs.domain.Domain.set_version.Goals as goal

pub returns-clause-stays : goal.returns-clause-stays
returns-clause-stays g c =
    recorded-stays g.P.Allows.may c.args.monitor.now c.args.self.now c.change_version-result.new.self c.add_record.new.self c.change_version-result.ensures.stays
    c.add_record.ensures.mine c.add_record.ensures.kept

pub returns-clause-answers : goal.returns-clause-answers
returns-clause-answers g c =
    recorded g.P.Allows.may c.args.monitor.now c.args.self.now c.change_version-result.new.self c.add_record.new.self (requests.SetVersion c.args.version) (hypercalls.SetVersion c.args.version)
    c.outcome_reply.result (verdict_of c.change_version-result.result) c.change_version-result.ensures.stays c.change_version-result.ensures.answers c.add_record.ensures.recorded
    c.outcome_reply.ensures.reply c.add_record.ensures.kept
