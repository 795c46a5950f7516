use Rattle.std.proofs.Common.{ap, ◌∙◌}
use Rattle.gt_attached.specs.Encoding.{encoded}
use Rattle.gt_attached.specs.declared.answer.AttachedOutcome.TheVariants.{Taken}
use Rattle.gt_attached.specs.declared.answer.TakenCounts.{TakenCounts}
use Rattle.gt_c.specs.Calling.{TakesAll}
use Rattle.gt_c.proofs.Made.{made}
use Rattle.gt_c.proofs.reports.gthost_take_records_at.Goals as goal

pub returns : goal.returns
returns c =
    let t = c.take_records-taken.ensures in
    made c.of.result (TakesAll c.of.result) (c.turned_away.ensures.may c.in_default.is) c.lent_mut-lent.ensures.value
    (c.of.ensures ∙ ap (λ (x : TakenCounts). encoded (Taken x)) t.taken, t.stays, t.emptied, t.bound, t.room, t.kept)
