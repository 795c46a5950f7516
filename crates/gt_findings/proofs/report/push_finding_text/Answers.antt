use Rattle.gt_findings.proofs.ReportLemmas.{finding_added, on_ok}
use Rattle.gt_findings.proofs.report.push_finding_text.Goals as goal

pub returns : goal.returns
returns c =
    on_ok c.push_excerpt.result
    (finding_added c.args.form c.args.file.now c.args.finding.now _ c.push_heading.new.out.items c.push_excerpt.new.out.items c.in_ok-push_heading.ensures) c.push_excerpt.ensures
