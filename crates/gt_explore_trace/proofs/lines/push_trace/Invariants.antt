use Rattle.std.proofs.Common.{◌≡◌, ◌++◌, drop, take}
use Rattle.gt_script.specs.RunContents.{run_contents}
use Rattle.gt_explore_trace.specs.Lines.{trace_lines, trace_output}
use Rattle.gt_explore_trace.proofs.lines.push_trace.Given as goal

-- what is written so far, and then the lines that are left, is what is written of all
abbrev pub invariant-moves : goal.invariant-moves
invariant-moves l = record {
  number : l.number ≡ l.traced-index;
  told : l.out.items ++ trace_lines (run_contents l.script) l.fn.form (take l.traced-index l.moves) (drop l.traced-index l.moves)
      ≡ l.fn.out.items ++ trace_output (run_contents l.script) l.fn.form l.moves;
}
