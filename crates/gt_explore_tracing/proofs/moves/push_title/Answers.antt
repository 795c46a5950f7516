use Rattle.std.proofs.Common.{codes}
use Rattle.gt_explore_answers.specs.Outputs.{found_from, heading_line}
use Rattle.gt_explore_answers.proofs.Shown.{two_joined}
use Rattle.gt_explore_tracing.proofs.moves.push_title.Goals as goal

pub returns : goal.returns
returns c =
    two_joined c.push_heading_line.result c.args.out.now.items (codes "sequenceDiagram\n    title ") (heading_line (found_from c.args.found.now) c.args.number) _ _
    c.in_ok-push_text.ensures.ok c.push_heading_line.ensures
