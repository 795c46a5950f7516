use Rattle.std.proofs.Common.{ap, ◌∙◌}
use Rattle.gt_attached.specs.Encoding.{encoded}
use Rattle.gt_c.specs.Reports.{EncodesUnused}
use Rattle.gt_c.proofs.Made.{idle-there, made}
use Rattle.gt_c.proofs.reports.gthost_unused_at.Goals as goal

pub unused-found-requires : goal.unused-found-requires
unused-found-requires c = record { idle = idle-there c.args.domain.now.held.value (c.turned_away.ensures.may c.in_default.is) c.lent_mut-lent.ensures.value }

pub returns : goal.returns
returns c =
    made c.of.result (EncodesUnused c.args.from c.of.result) (c.turned_away.ensures.may c.in_default.is) c.lent_mut-lent.ensures.value
    (record {
      found = c.unused-found.result;
      encodes = c.of.ensures ∙ ap encoded c.reference.ensures;
      stays = c.unused-found.ensures.stays;
      finds = c.unused-found.ensures.finds;
    })
