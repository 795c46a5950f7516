use Rattle.gt_findings.proofs.ReportLemmas.{more_blanks, on_ok}
use Rattle.gt_findings.proofs.report.push_indent.Goals as goal

pub returns-then-shown : goal.returns-then-shown
returns-then-shown c =
    on_ok c.push_blanks-then-shown.result
    (more_blanks c.args.out.now.items c.push_blanks.new.out.items c.push_blanks-then-shown.new.out.items
    c.in_ok-push_blanks.ensures) c.push_blanks-then-shown.ensures
