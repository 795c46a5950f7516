use Rattle.std.proofs.Common.{ap, subst, ◌∙◌, Result}
use Rattle.gt_types.specs.Denial.{denial_of}
use Rattle.gt_types.specs.declared.denial.Denial.{Denial}
use Rattle.gt_types.specs.declared.denial.Facts.TheVariants as facts
use Rattle.gt_types.specs.declared.denial.Rule.TheVariants.{N6}
use Rattle.gt_model.specs.declared.handle.Handle.{Handle}
use Rattle.gt_attached.specs.Encoding.{encoded}
use Rattle.gt_attached.specs.declared.answer.AttachedOutcome.TheVariants as outcomes
use Rattle.gt_model.specs.declared.request.Request.TheVariants as requests
use Rattle.gt_audit.specs.declared.record.Hypercall.TheVariants as hypercalls
use Rattle.gt_c.specs.Asking.{RefusesForeign, handle_named}
use Rattle.gt_live.specs.declared.domain.mappings.LeftWord.{LeftWord}
use Rattle.gt_c.specs.Calling.{EncodesUnmapped, outcome_released}
use Rattle.gt_c.proofs.Made.{idle-there, made}
use Rattle.gt_c.proofs.mappings.gthost_unmap_at.Goals as goal

pub unmap-answered-requires : goal.unmap-answered-requires
unmap-answered-requires c = record { idle = idle-there c.args.domain.now.held.value (c.is_turned_away.ensures.may c.if-is_turned_away.false) c.lent_mut-lent.ensures.value }

pub returns : goal.returns
returns c =
    let x = c.lent_mut-lent.result.now in let answer = c.store_released.new.answer in
    let refused : RefusesForeign x c.args.name.now (outcomes.Denied (denial_of N6 facts.None)) answer =
    λ foreign. c.store_released.ensures
    ∙ ap (λ (r : Result LeftWord Denial). encoded (outcome_released r)) (c.unmap-answered.ensures.absent (c.handle_named-handle.ensures.foreign foreign)) in
    made answer (λ d e. EncodesUnmapped (requests.Unmap (handle_named d c.args.name.now)) hypercalls.Unmap (handle_named d c.args.name.now) answer d e × RefusesForeign d c.args.name.now (outcomes.Denied (denial_of N6 facts.None)) answer) (c.is_turned_away.ensures.may c.if-is_turned_away.false) c.lent_mut-lent.ensures.value (
      subst (λ (h : Handle). EncodesUnmapped (requests.Unmap h) hypercalls.Unmap h answer x (record x { attached = c.unmap-answered.new.self }))
          c.handle_named-handle.ensures.value
          (record {
            result = c.unmap-answered.result;
            encodes = c.store_released.ensures;
            stays = c.unmap-answered.ensures.stays;
            holds = (c.unmap-answered.ensures.answered, c.unmap-answered.ensures.removed, c.unmap-answered.ensures.refused, c.unmap-answered.ensures.recorded);
          }),
      refused,
    )
