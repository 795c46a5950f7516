use Rattle.std.proofs.Common.{drop, take}
use Rattle.std.specs.Prelude.{is_some}
use Rattle.std.specs.Vec.Iter.{into_iter_items}
use Rattle.gt_run.specs.Printing.{AreAtGate, AreJobsOf, promised}
use Rattle.gt_run.specs.Serving.{AreReady}
use Rattle.gt_run.proofs.threads.start_each.Given as goal

abbrev pub invariant-parts : goal.invariant-parts
invariant-parts g l =
    AreJobsOf l.monitor (is_some l.log) (take l.part-index l.fn.parts) (promised l.handles.items)
    × AreReady g.P.Allows.may l.monitor (into_iter_items l.rest) (drop l.part-index l.fn.parts)
    × AreAtGate l.gate l.handles.items
