use Rattle.gt_findings.proofs.ReportLemmas.{texts_more}
use Rattle.gt_neverflow.specs.Printing.{IsFlowText}
use Rattle.gt_neverflow.proofs.printing.push_flow_breaches.Goals as goal

pub found-preserved : goal.found-preserved
found-preserved c =
    texts_more (IsFlowText c.args.form c.args.file.now c.args.never.text.now) c.args.found.now c.found.breach-index
    c.breach-item.result _ c.found.out.items c.push_flow_breach.new.out.items c.found-test.true c.breach-item.is
    c.found.invariant c.in_ok-push_flow_breach.ensures
