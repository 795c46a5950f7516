use Rattle.std.proofs.Common.{◌≡◌, ◌∙◌, ℕ, List, ap, subst}
use Rattle.std.specs.Prelude.{Result}
use Rattle.gt_types.specs.declared.GrantRef.{GrantRef}
use Rattle.gt_types.specs.declared.denial.Denial.{Denial}
use Rattle.gt_attached.specs.Encoding.{encoded}
use Rattle.gt_attached.specs.Seated.{StaysIdle}
use Rattle.gt_attached.specs.declared.answer.EncodedAnswer.{EncodedAnswer}
use Rattle.gt_live.specs.Following.{Follows}
use Rattle.gt_live.specs.declared.domain.following.Followed.{Followed}
use Rattle.gt_c.specs.Asking.{spelled}
use Rattle.gt_c.specs.Calling.{EncodesFollowed, outcome_followed, ref_at}
use Rattle.gt_c.specs.Prelude.{may}
use Rattle.gt_c.specs.declared.c_domain.CDomain.{CDomain}
use Rattle.gt_c.proofs.Made.{idle-there, made-granting}
use Rattle.gt_c.proofs.grants.gthost_follow_at.Goals as goal

-- the bytes followed are those that C passed
passed : (d e : CDomain) (gref : GrantRef) (bytes asked : List ℕ) (answer : EncodedAnswer) (result : Result Followed Denial)
    → bytes ≡ asked → answer ≡ encoded (outcome_followed result) → StaysIdle d.attached e.attached
    → Follows may d.attached.monitor d.attached.domain gref bytes result e.attached.domain → EncodesFollowed gref asked answer d e
passed d e gref bytes asked answer result same encodes stays follows =
    record {
      result = result;
      encodes = encodes;
      stays = stays;
      holds = subst (λ (xs : List ℕ). Follows may d.attached.monitor d.attached.domain gref xs result e.attached.domain) same follows;
    }

pub follow-followed-requires : goal.follow-followed-requires
follow-followed-requires c = record { idle = idle-there c.args.domain.now.held.value (c.turned_away.ensures.may c.in_default.is) c.lent_mut-lent.ensures.value }

pub returns : goal.returns
returns c =
    made-granting (ref_at c.args.gref) c.of-answer.result (EncodesFollowed (ref_at c.args.gref) (spelled c.args.bytes) c.of-answer.result) (c.turned_away.ensures.may c.in_default.is) c.lent_mut-lent.ensures.value c.note.ensures
    (passed _ _ (ref_at c.args.gref) c.spelled.result.now (spelled c.args.bytes) c.of-answer.result c.follow-followed.result c.spelled.ensures
    (c.of-answer.ensures ∙ ap encoded c.followed_outcome.ensures) c.follow-followed.ensures.stays c.follow-followed.ensures.follows)
