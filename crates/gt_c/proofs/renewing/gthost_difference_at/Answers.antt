use Rattle.std.proofs.Common.{ap, refl, ◌∙◌}
use Rattle.gt_attached.specs.Encoding.{encoded}
use Rattle.gt_c.specs.Renewing.{EncodesDifference}
use Rattle.gt_c.proofs.BothMade.{made-both}
use Rattle.gt_c.proofs.Made.{idle-there}
use Rattle.gt_c.proofs.renewing.gthost_difference_at.Goals as goal

pub first_difference-found-requires : goal.first_difference-found-requires
first_difference-found-requires c =
    let may = c.both_turned_away.ensures.may c.in_default.is in
    record {
      idle = idle-there c.args.domain.now.held.value may.0 c.lent_mut-lent.ensures.value;
      other_idle = idle-there c.args.other.now.held.value may.1 c.lent_mut-compared.ensures.value;
    }

pub returns : goal.returns
returns c =
    let may = c.both_turned_away.ensures.may c.in_default.is in
    made-both c.of.result (EncodesDifference c.of.result) may.0 c.lent_mut-lent.ensures.value may.1 c.lent_mut-compared.ensures.value
    (record {
      grantees = refl;
      other_grantees = refl;
      found = c.first_difference-found.result;
      encodes = c.of.ensures ∙ ap encoded c.reference.ensures;
      stays = c.first_difference-found.ensures.stays;
      other_stays = c.first_difference-found.ensures.other_stays;
      finds = c.first_difference-found.ensures.finds;
    })
