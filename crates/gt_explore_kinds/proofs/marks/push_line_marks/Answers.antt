use Rattle.std.proofs.Common.{◌≡◌, ◌∙◌, ◌++◌, ◌+◌, List, ap, arith, length, map}
use Rattle.std.specs.Global.{Vec}
use Rattle.gt_explore_verdict.specs.Formulas.{operation_asked}
use Rattle.gt_explore_verdict.specs.Satisfying.{lines_in}
use Rattle.gt_explore_verdict.specs.declared.operations.Operation.{Operation}
use Rattle.gt_explore_kinds.specs.Marks.{marks_from}
use Rattle.gt_explore_kinds.proofs.Numbering.{expression_more}
use Rattle.gt_explore_kinds.proofs.marks.push_line_marks.Goals as goal

pub expressions-preserved : goal.expressions-preserved
expressions-preserved c =
    let e = c.expression-item.result in let lines = lines_in c.args.line.now in
    let many : c.in_ok-first.first ≡ c.expressions.first + length e.items = omega (arith, c.in_ok-first.ensures, c.len.ensures, e.ok.0) in
    expression_more c.args.expressions.now c.expressions.expression-index e c.expressions-test.true c.expressions.marks.items c.push_marks.new.marks.items c.expressions.first _ lines _
    (c.in_ok-push_marks.ensures ∙ ap (λ (ops : List Operation). c.expressions.marks.items ++ marks_from c.expressions.first (map operation_asked ops) lines) (c.as_slice.ensures.value ∙ ap (λ (v : Vec Operation). v.items) c.expression-item.is))
    (many ∙ ap (λ (v : Vec Operation). c.expressions.first + length v.items) c.expression-item.is) c.expressions.invariant
