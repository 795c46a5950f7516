use Rattle.std.proofs.Common.{◌≡◌, None, []}
use Rattle.gt_run.specs.Joining.{AreGathered, AreOfThisRun, JoinsWhere, views_in}
use Rattle.gt_run.specs.Printing.{promised}
use Rattle.gt_run.proofs.threads.join_each.Given as goal

abbrev pub invariant-joins : goal.invariant-joins
invariant-joins g l =
    JoinsWhere (AreGathered (views_in l.gathered)) g.P.Allows.may (g.G.Gate.refuses l.gate) (promised l.yielded) l.audit.items l.lost (g.W.Write.contents l.initial.writer) (g.W.Write.contents l.writer) l.outcome
    × AreOfThisRun l.monitor.words l.gathered × ((l.gathered ≡ None) → l.yielded ≡ [])
