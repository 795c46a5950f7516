use Rattle.std.proofs.Common.{◌≡◌, map, take}
use Rattle.std.specs.List.{flat_map}
use Rattle.gt_explore_kinds.specs.Marks.{all_operations, line_marks}
use Rattle.gt_explore_kinds.proofs.marks.marks_of_lines.Given as goal

abbrev pub invariant-lines : goal.invariant-lines
invariant-lines l =
    l.marks.items ≡ flat_map (line_marks (all_operations l.expressions)) (map (λ x. x.now) (take l.line-index l.lines))
