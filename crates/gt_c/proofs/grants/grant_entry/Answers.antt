use Rattle.std.proofs.Common.{ap, ◌∙◌}
use Rattle.gt_attached.specs.Encoding.{encoded}
use Rattle.gt_model.specs.declared.request.Request.TheVariants as requests
use Rattle.gt_c.specs.Calling.{EncodesDone, ref_at}
use Rattle.gt_c.proofs.Made.{idle-there, made-granting}
use Rattle.gt_c.proofs.grants.grant_entry.Goals as goal

pub grant-requires : goal.grant-requires
grant-requires c = record { idle = idle-there c.args.domain.now.held.value (c.turned_away.ensures.may c.in_default.is) c.lent_mut-lent.ensures.value }

pub returns : goal.returns
returns c =
    made-granting (ref_at c.args.gref) c.of-answer.result (EncodesDone (requests.Grant (ref_at c.args.gref) c.args.entry) c.of-answer.result) (c.turned_away.ensures.may c.in_default.is) c.lent_mut-lent.ensures.value c.note.ensures
    (record {
      result = c.grant.result;
      encodes = c.of-answer.ensures ∙ ap encoded c.done.ensures;
      stays = c.grant.ensures.stays;
      holds = c.grant.ensures.answers;
    })
