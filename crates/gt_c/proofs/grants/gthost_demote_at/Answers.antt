use Rattle.std.proofs.Common.{ap, ◌∙◌}
use Rattle.gt_attached.specs.Encoding.{encoded}
use Rattle.gt_model.specs.declared.request.Request.TheVariants as requests
use Rattle.gt_c.specs.Calling.{EncodesDone, ref_at}
use Rattle.gt_c.proofs.Made.{idle-there, made}
use Rattle.gt_c.proofs.grants.gthost_demote_at.Goals as goal

pub demote-requires : goal.demote-requires
demote-requires c = record { idle = idle-there c.args.domain.now.held.value (c.turned_away.ensures.may c.in_default.is) c.lent_mut-lent.ensures.value }

pub returns : goal.returns
returns c =
    made c.of.result (EncodesDone (requests.Demote (ref_at c.args.gref)) c.of.result) (c.turned_away.ensures.may c.in_default.is) c.lent_mut-lent.ensures.value
    (record {
      result = c.demote.result;
      encodes = c.of.ensures ∙ ap encoded c.done.ensures;
      stays = c.demote.ensures.stays;
      holds = c.demote.ensures.answers;
    })
