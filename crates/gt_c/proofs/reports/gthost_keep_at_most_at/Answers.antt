use Rattle.gt_c.specs.Calling.{KeepsAtMost}
use Rattle.gt_c.proofs.Made.{made}
use Rattle.gt_c.proofs.reports.gthost_keep_at_most_at.Goals as goal

pub returns : goal.returns
returns c =
    made c.of.result (KeepsAtMost c.args.records c.of.result) (c.turned_away.ensures.may c.in_default.is) c.lent_mut-lent.ensures.value
    (c.of.ensures, c.keep_at_most.ensures.stays, c.keep_at_most.ensures.bound)
