use Rattle.std.proofs.Common.{ap, ◌∙◌}
use Rattle.gt_attached.specs.Encoding.{encoded}
use Rattle.gt_model.specs.declared.request.Request.TheVariants as requests
use Rattle.gt_audit.specs.declared.record.Hypercall.TheVariants as hypercalls
use Rattle.gt_live.specs.Domains.{verdict_of_version}
use Rattle.gt_c.specs.Calling.{EncodesRecorded, dom_of, outcome_version}
use Rattle.gt_c.proofs.Made.{idle-there, made}
use Rattle.gt_c.proofs.tables.version_of.Goals as goal

pub get_version-requires : goal.get_version-requires
get_version-requires c = record { idle = idle-there c.args.domain.now.held.value (c.turned_away.ensures.may c.in_default.is) c.lent_mut-lent.ensures.value }

pub returns : goal.returns
returns c =
    made c.of.result (EncodesRecorded outcome_version verdict_of_version (requests.GetVersion (dom_of c.args.dom)) (hypercalls.GetVersion (dom_of c.args.dom)) c.of.result) (c.turned_away.ensures.may c.in_default.is) c.lent_mut-lent.ensures.value
    (record {
      result = c.get_version.result;
      encodes = c.of.ensures ∙ ap encoded c.version_outcome.ensures;
      stays = c.get_version.ensures.stays;
      holds = c.get_version.ensures.answers;
    })
