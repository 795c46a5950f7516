use Rattle.gt_findings.proofs.ReportLemmas.{excerpt_added, on_ok}
use Rattle.gt_findings.proofs.report.push_excerpt.Goals as goal

pub returns : goal.returns
returns c =
    on_ok c.push_text-2.result
    (excerpt_added c.args.form c.args.finding.now.kind c.caret.result.now _ c.push_shown_part.new.out.items
    c.push_text.new.out.items c.push_indent.new.out.items c.push_text-2.new.out.items c.in_ok-push_shown_part.ensures
    c.in_ok-push_text.ensures.ok c.in_ok-push_indent.ensures c.caret.ensures) c.push_text-2.ensures.ok
