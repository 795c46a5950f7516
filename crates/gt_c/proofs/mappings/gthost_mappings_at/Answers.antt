use Rattle.std.proofs.Common.{ap, refl, ◌∙◌}
use Rattle.gt_attached.specs.Encoding.{encoded}
use Rattle.gt_types.specs.declared.DomId.{DomId}
use Rattle.gt_c.specs.Reports.{EncodesNext, outcome_next}
use Rattle.gt_c.proofs.Made.{made}
use Rattle.gt_c.proofs.mappings.gthost_mappings_at.Goals as goal

pub returns : goal.returns
returns c =
    let x = c.lent_mut-lent.result.now in
    made c.of.result (EncodesNext c.args.from c.of.result) (c.is_turned_away.ensures.may c.if-is_turned_away.false) c.lent_mut-lent.ensures.value
    (record {
      found = c.next_mapping-found.result;
      encodes =
          c.of.ensures
          ∙ ap encoded (c.next_outcome.ensures ∙ ap (λ (d : DomId). outcome_next d x.run c.next_mapping-found.result) c.dom.ensures);
      finds = c.next_mapping-found.ensures;
      same = refl;
    })
