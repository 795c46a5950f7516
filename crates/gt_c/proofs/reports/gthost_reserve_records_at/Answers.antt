use Rattle.std.proofs.Common.{ap, ◌∙◌}
use Rattle.gt_attached.specs.Encoding.{encoded}
use Rattle.gt_c.specs.Calling.{Reserves}
use Rattle.gt_c.proofs.Made.{made}
use Rattle.gt_c.proofs.reports.gthost_reserve_records_at.Goals as goal

pub returns : goal.returns
returns c =
    made c.of.result (Reserves c.args.records c.of.result) (c.turned_away.ensures.may c.in_default.is) c.lent_mut-lent.ensures.value
    (record {
      result = c.reserve_records.result;
      encodes = c.of.ensures ∙ ap encoded c.reserved.ensures;
      stays = c.reserve_records.ensures.stays;
      bound = c.reserve_records.ensures.bound;
      refused = c.reserve_records.ensures.refused;
      room = c.reserve_records.ensures.room;
      grows = c.reserve_records.ensures.grows;
      kept = c.reserve_records.ensures.kept;
    })
