use Rattle.std.proofs.Common.{ap, ◌∙◌}
use Rattle.gt_attached.specs.Encoding.{encoded}
use Rattle.gt_model.specs.declared.request.Request.TheVariants as requests
use Rattle.gt_audit.specs.declared.record.Hypercall.TheVariants as hypercalls
use Rattle.gt_live.specs.Domains.{verdict_of_size}
use Rattle.gt_c.specs.Calling.{EncodesRecorded, dom_of, outcome_size}
use Rattle.gt_c.proofs.Made.{idle-there, made}
use Rattle.gt_c.proofs.tables.size_of.Goals as goal

pub query_size-requires : goal.query_size-requires
query_size-requires c = record { idle = idle-there c.args.domain.now.held.value (c.turned_away.ensures.may c.in_default.is) c.lent_mut-lent.ensures.value }

pub returns : goal.returns
returns c =
    made c.of.result (EncodesRecorded outcome_size verdict_of_size (requests.QuerySize (dom_of c.args.dom)) (hypercalls.QuerySize (dom_of c.args.dom)) c.of.result) (c.turned_away.ensures.may c.in_default.is) c.lent_mut-lent.ensures.value
    (record {
      result = c.query_size.result;
      encodes = c.of.ensures ∙ ap encoded c.size_outcome.ensures;
      stays = c.query_size.ensures.stays;
      holds = c.query_size.ensures.answers;
    })
