use Rattle.gt_audit.specs.declared.record.Hypercall.TheVariants as hypercalls
use Rattle.gt_model.specs.declared.request.Request.TheVariants as requests
use Rattle.std.proofs.Common.{sym, subst}
use Rattle.gt_model.specs.Path.{path}
use Rattle.gt_model.specs.declared.action.CallResult.{CallResult}
use Rattle.gt_model.specs.declared.action.HeaderQuery.TheVariants.{Version}
use Rattle.gt_model.specs.declared.request.OpenRequest.TheVariants as asks
use Rattle.gt_live.specs.Domains.{knowledge, verdict_of_version}
use Rattle.gt_live.specs.Walks.{Called}
use Rattle.gt_live.proofs.Recorded.{recorded, recorded-stays}
use Rattle.gt_live.proofs.domain.Domain.get_version.Goals as goal

pub returns-clause-stays : goal.returns-clause-stays
returns-clause-stays g c =
    recorded-stays g.P.Allows.may c.args.monitor.now c.args.self.now c.ask.new.self c.add_record.new.self c.ask.ensures.stays
    c.add_record.ensures.mine c.add_record.ensures.kept

pub returns-clause-answers : goal.returns-clause-answers
returns-clause-answers g c =
    recorded g.P.Allows.may c.args.monitor.now c.args.self.now c.ask.new.self c.add_record.new.self (requests.GetVersion c.args.dom) (hypercalls.GetVersion c.args.dom)
    c.version_reply.result (verdict_of_version c.version_by-result.result) c.ask.ensures.stays (
      subst (λ (x : CallResult). Called c.args.monitor.now.words.layout
          (path (knowledge c.args.monitor.now.config (g.P.Allows.may c.args.monitor.now.rights) c.args.self.now) c.args.self.now.seat.dom (asks.GetVersion c.args.dom)) x
          c.args.self.now.seat.view c.ask.new.self.seat.view) (sym c.version_by-result.ensures) (c.ask.ensures.called Version),
      c.ask.ensures.kept,
      c.ask.ensures.silent,
    ) c.add_record.ensures.recorded
    c.version_reply.ensures.reply c.add_record.ensures.kept
