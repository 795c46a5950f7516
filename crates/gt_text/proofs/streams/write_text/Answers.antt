use Rattle.gt_text.proofs.StreamLemmas.{appends_front}
use Rattle.gt_text.proofs.streams.write_text.Goals as goal

pub writes-preserved : goal.writes-preserved
writes-preserved g c =
    let step = c.in_ok-done.ensures.ok in
    (step.1, appends_front _ _ _ c.writes.done _ c.args.text.now step.0 c.writes.invariant.1 step.2)
