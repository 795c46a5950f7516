use Rattle.std.proofs.Common.{ap, not, refl, subst, sym, ◌∙◌, is_some, Option}
use Rattle.gt_live.specs.declared.domain.copies.PendingCopy.{PendingCopy}
use Rattle.gt_types.specs.declared.limits.TheConstants.{TABLE_ENTRIES}
use Rattle.gt_attached.specs.Encoding.{encoded}
use Rattle.gt_attached.specs.Renewing.{GrantsAllOf}
use Rattle.gt_c.specs.Prelude.{Seated, StaysIdle, Table, may}
use Rattle.gt_c.specs.Renewing.{EncodesGrants}
use Rattle.gt_c.proofs.BothMade.{made-both-then}
use Rattle.gt_c.proofs.Made.{idle-there}
use Rattle.gt_c.proofs.Noting.{noted-all, noted-attached, noted-run}
use Rattle.gt_c.proofs.renewing.gthost_grant_all_of_at.Goals as goal

pub grant_all_of-requires : goal.grant_all_of-requires
grant_all_of-requires c =
    let called = c.both_turned_away.ensures.may c.in_default.is in
    record { idle = idle-there c.args.domain.now.held.value called.0 c.lent_mut-lent.ensures.value }

pub returns : goal.returns
returns c =
    let called = c.both_turned_away.ensures.may c.in_default.is in
    let x = c.lent_mut-lent.result.now in let k = c.note_all.new.lent in let g = c.grant_all_of.new.self in
    let from = c.lent_mut-from.result.now in let is = sym (noted-attached TABLE_ENTRIES x k g c.note_all.ensures) in
    made-both-then c.of-answer.result (EncodesGrants c.of-answer.result) called.0 c.lent_mut-lent.ensures.value called.1 c.lent_mut-from.ensures.value
    (noted-run TABLE_ENTRIES x k g c.note_all.ensures) (
      noted-all TABLE_ENTRIES x k g c.note_all.ensures,
      refl,
      record {
        result = c.grant_all_of.result;
        encodes = c.of-answer.ensures ∙ ap encoded c.done.ensures;
        stays = subst (λ (s : Seated Table). StaysIdle x.attached s) is c.grant_all_of.ensures.stays;
        holds =
            subst (λ (s : Seated Table). GrantsAllOf may x.attached.monitor x.attached.domain from.attached.domain c.grant_all_of.result s.domain)
            is c.grant_all_of.ensures.grants;
      },
    )

pub invariant_of-domain : goal.invariant_of-domain
invariant_of-domain c =
    record {
      live = λ on. refl;
      idle = λ off. absurd (let none = c.both_turned_away.new.domain.idle off in let some = c.lent_mut-lent.ensures.value in cc);
      ready = λ on.
          let x = c.lent_mut-lent.result.now in let k = c.note_all.new.lent in let g = c.grant_all_of.new.self in
          let same = noted-attached TABLE_ENTRIES x k g c.note_all.ensures in let idle = c.grant_all_of.ensures.stays.1 in
          ap (λ (s : Seated Table). not (is_some s.copying)) same ∙ ap (λ (o : Option PendingCopy). not (is_some o)) idle;
    }
