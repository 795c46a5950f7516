use Rattle.std.proofs.Common.{◌≡◌}
use Rattle.gt_script.specs.Preceding.{preceding_all}
use Rattle.gt_script.specs.RunContents.{run_contents}
use Rattle.gt_script.specs.Stuck.{AreNumbered}
use Rattle.gt_explore_precedence.proofs.pairs.preceding_all.Given as goal

abbrev pub invariant-pairs : goal.invariant-pairs
invariant-pairs l =
    (run_contents l.made ≡ preceding_all l.yielded (run_contents l.fn.script)) × (l.made.head ≡ l.fn.script.head)
    × (AreNumbered l.fn.script.flags l.fn.script.tasks → AreNumbered l.made.flags l.made.tasks)
