use Rattle.std.proofs.Common.{ap, ◌∙◌}
use Rattle.gt_attached.specs.Encoding.{encoded}
use Rattle.gt_model.specs.declared.request.Request.TheVariants as requests
use Rattle.gt_audit.specs.declared.record.Hypercall.TheVariants as hypercalls
use Rattle.gt_live.specs.Domains.{verdict_of}
use Rattle.gt_c.specs.Calling.{EncodesRecorded, outcome}
use Rattle.gt_c.proofs.Made.{idle-there, made}
use Rattle.gt_c.proofs.tables.gthost_set_version_at.Goals as goal

pub set_version-requires : goal.set_version-requires
set_version-requires c = record { idle = idle-there c.args.domain.now.held.value (c.turned_away.ensures.may c.in_default.is) c.lent_mut-lent.ensures.value }

pub returns : goal.returns
returns c =
    made c.of.result (EncodesRecorded outcome verdict_of (requests.SetVersion c.args.version) (hypercalls.SetVersion c.args.version) c.of.result) (c.turned_away.ensures.may c.in_default.is) c.lent_mut-lent.ensures.value
    (record {
      result = c.set_version.result;
      encodes = c.of.ensures ∙ ap encoded c.done.ensures;
      stays = c.set_version.ensures.stays;
      holds = c.set_version.ensures.answers;
    })
