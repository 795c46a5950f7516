use Rattle.gt_findings.proofs.ReportLemmas.{as_json, as_text, on_ok}
use Rattle.gt_findings.proofs.report.push_findings.Goals as goal

pub returns-in-Json : goal.returns-in-Json
returns-in-Json c = on_ok c.push_json.result (as_json c.args.form c.args.file.now c.args.found.now _ c.push_json.new.out.items c.in-Json.is) c.push_json.ensures

pub returns-in-Text : goal.returns-in-Text
returns-in-Text c = on_ok c.push_report.result (as_text c.args.form c.args.file.now c.args.found.now _ c.push_report.new.out.items c.in-Text.is) c.push_report.ensures
