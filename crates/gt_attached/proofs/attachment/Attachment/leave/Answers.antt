use Rattle.gt_attached.specs.Seated.{seated}
use Rattle.std.proofs.Common.{None}
use Rattle.gt_attached.proofs.attachment.Attachment.leave.Goals as goal

pub returns : goal.returns
returns g c =
    record {
      settled = seated c.args.monitor.now c.end_copy.new.domain None;
      settles = c.end_copy.ensures.settles;
      leaves = c.depart.ensures;
    }
