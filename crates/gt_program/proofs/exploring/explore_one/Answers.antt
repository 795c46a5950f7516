use Rattle.std.proofs.Common.{◌∙◌, sym}
use Rattle.gt_program.proofs.OneExplored.{one_plain, one_unread}
use Rattle.gt_program.proofs.exploring.explore_one.Goals as goal

pub returns-in_default : goal.returns-in_default
returns-in_default g c = λ all e.
    one_plain c.args.asked.now all (g.W.Write.contents c.args.out.now) (g.W.Write.contents c.explore_named.new.writer) c.explore_named.result (sym c.precedence_asked.ensures ∙ c.in_default.is) (c.explore_named.ensures all e)

pub returns-in-Err : goal.returns-in-Err
returns-in-Err g c = λ all e.
    one_unread c.args.asked.now c.in-Some.claim all c.args.input.now c.in-Err.field-0 (g.W.Write.contents c.args.out.now) (g.W.Write.contents c.explore_named-in-Err.new.writer) c.explore_named-in-Err.result
    (sym c.precedence_asked.ensures ∙ c.in-Some.is) e c.in-Err.ensures.line (c.explore_named-in-Err.ensures all e)
