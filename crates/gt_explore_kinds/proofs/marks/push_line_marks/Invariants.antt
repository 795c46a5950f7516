use Rattle.std.proofs.Common.{◌≡◌, ◌++◌, drop}
use Rattle.gt_explore_verdict.specs.Satisfying.{lines_in}
use Rattle.gt_explore_kinds.specs.Marks.{all_operations, line_marks, marks_from}
use Rattle.gt_explore_kinds.proofs.marks.push_line_marks.Given as goal

-- the marks so far, and then those of the expressions that are left, are all
abbrev pub invariant-expressions : goal.invariant-expressions
invariant-expressions l =
    l.marks.items ++ marks_from l.first (all_operations (drop l.expression-index l.expressions)) (lines_in l.line)
    ≡ l.fn.marks.items ++ line_marks (all_operations l.expressions) l.line
