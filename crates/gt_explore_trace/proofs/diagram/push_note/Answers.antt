use Rattle.std.proofs.Common.{codes, decimal}
use Rattle.gt_explore_trace.specs.Diagram.{diagram_note}
use Rattle.gt_explore_trace.proofs.OneMore.{three_joined}
use Rattle.gt_explore_trace.proofs.diagram.push_note.Goals as goal

pub returns : goal.returns
unfolding diagram_note
returns c =
    three_joined c.push_text-2.result c.args.out.now.items (codes "    Note over D") (decimal c.args.dom.0) (codes ": ") _ _ _
    c.in_ok-push_text.ensures.ok c.in_ok-push_number.ensures.text c.push_text-2.ensures.ok
