use Rattle.std.proofs.Common.{ap, ◌∙◌}
use Rattle.gt_attached.specs.Encoding.{encoded}
use Rattle.gt_model.specs.declared.request.Request.TheVariants as requests
use Rattle.gt_audit.specs.declared.record.Hypercall.TheVariants as hypercalls
use Rattle.gt_live.specs.Domains.{verdict_of_frames}
use Rattle.gt_c.specs.Calling.{EncodesRecorded, outcome_frames}
use Rattle.gt_c.proofs.Made.{idle-there, made}
use Rattle.gt_c.proofs.tables.gthost_setup_table_at.Goals as goal

pub setup_table-requires : goal.setup_table-requires
setup_table-requires c = record { idle = idle-there c.args.domain.now.held.value (c.turned_away.ensures.may c.in_default.is) c.lent_mut-lent.ensures.value }

pub returns : goal.returns
returns c =
    made c.of.result (EncodesRecorded outcome_frames verdict_of_frames (requests.SetupTable c.args.frames) (hypercalls.SetupTable c.args.frames) c.of.result) (c.turned_away.ensures.may c.in_default.is) c.lent_mut-lent.ensures.value
    (record {
      result = c.setup_table.result;
      encodes = c.of.ensures ∙ ap encoded c.frames_outcome.ensures;
      stays = c.setup_table.ensures.stays;
      holds = c.setup_table.ensures.answers;
    })
