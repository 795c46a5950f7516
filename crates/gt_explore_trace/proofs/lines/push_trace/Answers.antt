use Rattle.std.proofs.Common.{◌+◌, ℕ, ap}
use Rattle.gt_script.specs.RunContents.{run_contents}
use Rattle.gt_explore_trace.proofs.OneMore.{told_more}
use Rattle.gt_explore_trace.proofs.lines.push_trace.Goals as goal

pub moves-preserved : goal.moves-preserved
moves-preserved c =
    let so = rw (c.in_ok-names.ensures, c.head.ensures, c.in_ok-task.ensures, c.moves.invariant.number) at c.in_ok-push_line.ensures in record {
      number = ap (λ (n : ℕ). n + 1) c.moves.invariant.number;
      told = told_more (run_contents c.args.script.now) c.args.form c.args.moves.now c.moves.traced-index c.traced-item.result c.moves.out.items _ _ c.moves-test.true c.traced-item.is so c.moves.invariant.told;
    }
