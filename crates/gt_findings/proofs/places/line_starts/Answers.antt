use Rattle.gt_findings.proofs.ColumnLemmas.{begins_next}
use Rattle.gt_findings.proofs.places.line_starts.Goals as goal

pub bytes-preserved : goal.bytes-preserved
bytes-preserved c =
    let next = begins_next c.args.bytes.now c.bytes.starts.items c.push_start.new.starts.items c.bytes.place c.bytes-test.true c.bytes.invariant.each c.bytes.invariant.many c.in_ok-push_start.ensures in
    record { each = next.0; many = next.1 }
