use Rattle.std.proofs.Common.{◌≡◌, ap, ◌∙◌}
use Rattle.gt_attached.specs.Encoding.{encoded}
use Rattle.gt_c.specs.Calling.{ref_at}
use Rattle.gt_types.specs.declared.DomId.{DomId}
use Rattle.gt_c.specs.Reports.{entry_status, no_entry, EncodesEntry}
use Rattle.gt_c.proofs.Made.{idle-there, made-telling}
use Rattle.gt_c.proofs.reports.gthost_entry_at.Goals as goal

pub status-found-requires : goal.status-found-requires
status-found-requires c = record { idle = idle-there c.args.domain.now.held.value (c.turned_away.ensures.may c.in_default.is) c.lent_mut-lent.ensures.value }

pub returns : goal.returns
returns c =
    made-telling c.of-answer.result (c.entry_status-entry.result ≡ no_entry) (EncodesEntry (ref_at c.args.gref) c.entry_status-entry.result c.of-answer.result) (c.turned_away.ensures.may c.in_default.is) c.lent_mut-lent.ensures.value
    (record {
      found = c.status-found.result;
      encodes = c.of-answer.ensures ∙ ap encoded c.present.ensures;
      shown = c.entry_status-entry.ensures ∙ ap (λ (d : DomId). entry_status d c.status-found.result) c.last.ensures;
      stays = c.status-found.ensures.stays;
      looks = c.status-found.ensures.looks;
    })
