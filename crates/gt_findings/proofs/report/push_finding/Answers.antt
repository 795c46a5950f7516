use Rattle.gt_findings.proofs.ReportLemmas.{object_alone, on_ok, text_alone}
use Rattle.gt_findings.proofs.report.push_finding.Goals as goal

pub returns-in-Json : goal.returns-in-Json
returns-in-Json c = on_ok c.push_object.result
    (object_alone c.args.form c.args.file.now c.args.finding.now _ c.push_object.new.out.items c.in-Json.is)
    c.push_object.ensures

pub returns-in-Text : goal.returns-in-Text
returns-in-Text c = on_ok c.push_finding_text.result
    (text_alone c.args.form c.args.file.now c.args.finding.now _ c.push_finding_text.new.out.items c.in-Text.is)
    c.push_finding_text.ensures
