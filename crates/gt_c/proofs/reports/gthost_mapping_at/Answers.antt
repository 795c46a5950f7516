use Rattle.std.proofs.Common.{◌≡◌, ap, refl, ◌∙◌, Option}
use Rattle.gt_attached.specs.Encoding.{encoded}
use Rattle.gt_attached.specs.declared.answer.AttachedOutcome.TheVariants as outcomes
use Rattle.gt_model.specs.declared.held.HeldPin.{HeldPin}
use Rattle.gt_handles.specs.Handles.{value_of}
use Rattle.gt_model.specs.declared.handle.Handle.{Handle}
use Rattle.gt_c.specs.Asking.{RefusesForeign, handle_named}
use Rattle.gt_c.specs.Reports.{no_mapping, EncodesMapping, mapping_report, outcome_present}
use Rattle.gt_c.proofs.Made.{made-telling}
use Rattle.gt_c.proofs.reports.gthost_mapping_at.Goals as goal

pub returns : goal.returns
returns c =
    let x = c.lent_mut-lent.result.now in
    let found =
    c.mapping-found.ensures
    ∙ ap (λ (h : Handle). value_of x.attached.domain.mappings h) c.handle_named-handle.ensures.value in
    let absent : RefusesForeign x c.args.name outcomes.Absent c.of-answer.result =
    λ foreign. c.of-answer.ensures
    ∙ ap encoded (c.present.ensures ∙ ap (λ (o : Option HeldPin). outcome_present o) (c.mapping-found.ensures ∙ c.handle_named-handle.ensures.foreign foreign)) in
    made-telling c.of-answer.result (c.mapping_report-mapping.result ≡ no_mapping) (λ d e. EncodesMapping (handle_named d c.args.name) c.mapping_report-mapping.result c.of-answer.result d e × RefusesForeign d c.args.name outcomes.Absent c.of-answer.result) (c.turned_away.ensures.may c.in_default.is) c.lent_mut-lent.ensures.value (
      (
        c.of-answer.ensures ∙ ap encoded (c.present.ensures ∙ ap (λ (o : Option HeldPin). outcome_present o) found),
        c.mapping_report-mapping.ensures ∙ ap (λ (o : Option HeldPin). mapping_report o) found,
        refl,
      ),
      absent,
    )
