use Rattle.gt_findings.proofs.ReportLemmas.{on_ok}
use Rattle.gt_neverflow.proofs.PrintingLemmas.{flow_added}
use Rattle.gt_neverflow.proofs.printing.push_flow_breach.Goals as goal

pub returns : goal.returns
returns c = on_ok c.push_finding.result
    (flow_added c.args.at.now.form c.args.at.now.file.now c.args.at.now.never.text.now c.args.breach.now
    c.in_ok-error.error _ c.push_finding.new.out.items
    (c.in_ok-error.ensures c.args.at.now.never.text.now c.requires.columns))
    c.push_finding.ensures
