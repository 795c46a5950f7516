use Rattle.gt_script.specs.RunContents.{run_contents}
use Rattle.gt_explore_changes.specs.Fewest.{HasAtLeast}
use Rattle.gt_explore_changes.proofs.fewest.with_fewest_blocks.Given as goal

abbrev pub invariant-loop-most : goal.invariant-loop-most
invariant-loop-most g l = HasAtLeast (run_contents l.script) l.order.text.items l.most
