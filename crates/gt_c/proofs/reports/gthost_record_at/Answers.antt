use Rattle.std.proofs.Common.{◌≡◌, ap, refl, ◌∙◌, Option}
use Rattle.gt_attached.specs.Encoding.{encoded}
use Rattle.gt_audit.specs.declared.record.Record.{Record}
use Rattle.gt_c.specs.Reports.{no_record, EncodesRecord, outcome_present, kept_record}
use Rattle.gt_c.proofs.Made.{made-telling}
use Rattle.gt_c.proofs.reports.gthost_record_at.Goals as goal

pub returns : goal.returns
returns c =
    made-telling c.of-answer.result (c.encoded_record-kept.result ≡ no_record) (EncodesRecord c.args.index c.encoded_record-kept.result c.of-answer.result) (c.turned_away.ensures.may c.in_default.is) c.lent_mut-lent.ensures.value (
      c.of-answer.ensures ∙ ap encoded (c.present.ensures ∙ ap (λ (o : Option Record). outcome_present o) c.record_at-found.ensures),
      c.encoded_record-kept.ensures ∙ ap (λ (o : Option Record). kept_record o) c.record_at-found.ensures,
      refl,
    )
