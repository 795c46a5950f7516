use Rattle.std.proofs.Common.{◌≡◌, ◌++◌, drop, map}
use Rattle.gt_explore_verdict.specs.Formulas.{operation_asked}
use Rattle.gt_explore_verdict.specs.Satisfying.{lines_in}
use Rattle.gt_explore_kinds.specs.Marks.{marks_from}
use Rattle.gt_explore_kinds.proofs.marks.push_marks.Given as goal

-- the marks so far, and then those of the operations that are left, are all
abbrev pub invariant-operations : goal.invariant-operations
invariant-operations l =
    l.marks.items ++ marks_from l.number (map operation_asked (drop l.operation-index l.operations)) (lines_in l.line)
    ≡ l.fn.marks.items ++ marks_from l.first (map operation_asked l.operations) (lines_in l.line)
