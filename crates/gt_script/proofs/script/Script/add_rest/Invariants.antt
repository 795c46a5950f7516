use Rattle.std.proofs.Common.{◌≡◌, ◌+◌, drop}
use Rattle.gt_script.specs.Contents.{contents_of}
use Rattle.gt_script.specs.Script.{with_lines}
use Rattle.gt_script.proofs.ScriptLemmas.{texts}
use Rattle.gt_script.proofs.script.Script.add_rest.Given as goal

abbrev pub invariant-loop-i : goal.invariant-loop-i
invariant-loop-i l = with_lines (contents_of l.self) (l.before + l.i + 1) (texts (drop l.i l.lines)) ≡ with_lines (contents_of l.initial.self) (l.before + 1) (texts l.lines)
