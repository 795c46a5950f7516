use Rattle.std.proofs.Common.{◌∙◌, ap, sym}
use Rattle.gt_policy_questions.specs.Lines.{line_part_text}
use Rattle.gt_policy_questions.specs.declared.flows.format.FlowText.{FlowText}
use Rattle.gt_policy_questions.proofs.Growing.{grows-part, lost}
use Rattle.gt_policy_questions.proofs.flows.lines.push_parts.Goals.{then-is_err, else-is_err}
use Rattle.gt_policy_questions.proofs.flows.lines.push_parts.Goals as goal

pub parts-preserved : goal.parts-preserved
parts-preserved c = elim c.if-is_err.branch [
  | then-is_err w ↦ lost c.args.out.now c.if-is_err.out _ (ap (λ (o : FlowText). o.is_whole) w.out-is)
  | else-is_err w ↦ rw w.out-is
      (grows-part (line_part_text c.args.line.now) c.args.parts.now c.parts.part-index _ c.args.out.now c.parts.out
      c.push_part.new.out c.push_part.result c.parts-test.true c.parts.invariant
      (sym c.is_err.ensures.value ∙ w.if-is_err.false) c.push_part.ensures)
]
