use Rattle.std.proofs.Common.{ap, ◌≡◌, ◌∙◌, ℕ, List, Bor}
use Rattle.gt_attached.specs.Encoding.{encoded}
use Rattle.gt_model.specs.declared.request.Request.TheVariants as requests
use Rattle.gt_c.specs.Asking.{spelled}
use Rattle.gt_c.specs.Calling.{EncodesDone, ref_at}
use Rattle.gt_c.proofs.Made.{idle-there, made-granting}
use Rattle.gt_c.proofs.grants.gthost_grant_bytes_at.Goals as goal

pub grant_bytes-requires : goal.grant_bytes-requires
grant_bytes-requires c = record { idle = idle-there c.args.domain.now.held.value (c.turned_away.ensures.may c.in_default.is) c.lent_mut-lent.ensures.value }

pub returns : goal.returns
returns c =
    made-granting (ref_at c.args.gref) c.of-answer.result (λ d e. (s : Bor (List ℕ)) × (s.now ≡ spelled c.args.bytes) × EncodesDone (requests.GrantBytes (ref_at c.args.gref) s) c.of-answer.result d e) (c.turned_away.ensures.may c.in_default.is) c.lent_mut-lent.ensures.value c.note.ensures (
      c.spelled.result,
      c.spelled.ensures,
      record {
        result = c.grant_bytes.result;
        encodes = c.of-answer.ensures ∙ ap encoded c.done.ensures;
        stays = c.grant_bytes.ensures.stays;
        holds = c.grant_bytes.ensures.answers;
      },
    )
