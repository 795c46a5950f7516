use Rattle.std.proofs.Common.{◌≡◌, ◌++◌, take}
use Rattle.std.specs.Prelude.{flat_map}
use Rattle.std.specs.Str.Lines.{lines as lines_in}
use Rattle.gt_call_names.specs.Naming.{numbers_named}
use Rattle.gt_explore_precedence.specs.Pairs.{call_line_if}
use Rattle.gt_explore_precedence.proofs.pairs.calls_meant.Given as goal

abbrev pub invariant-tasks : goal.invariant-tasks
invariant-tasks l = l.found.items ≡ numbers_named l.word 1 (lines_in l.source) ++ flat_map (call_line_if l.word) (take l.task-index l.task-items)
