use Rattle.gt_findings.specs.Report.{IsFindingText}
use Rattle.gt_findings.proofs.ReportLemmas.{texts_more}
use Rattle.gt_findings.proofs.report.push_report.Goals as goal

pub found-preserved : goal.found-preserved
found-preserved c =
    texts_more (IsFindingText c.args.form c.args.file.now) c.args.found.now c.found.finding-index c.finding-item.result _ c.found.out.items c.push_finding_text.new.out.items
    c.found-test.true c.finding-item.is c.found.invariant c.in_ok-push_finding_text.ensures
