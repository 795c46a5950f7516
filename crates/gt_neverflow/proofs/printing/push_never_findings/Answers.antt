use Rattle.gt_findings.proofs.ReportLemmas.{on_ok}
use Rattle.gt_neverflow.proofs.PrintingLemmas.{all_added}
use Rattle.gt_neverflow.proofs.printing.push_never_findings.Goals as goal

pub returns : goal.returns
returns c = let texts = c.args.texts.now in
    on_ok c.push_flow_breaches.result
    (all_added c.args.form texts.file.now texts.policy.now texts.never_file.now texts.never.now c.args.found.now
    c.as_slice.result.now c.as_slice-2.result.now c.as_slice-3.result.now _ c.push_findings.new.out.items
    c.push_breaches.new.out.items c.push_flow_breaches.new.out.items c.as_slice.ensures.value c.as_slice-2.ensures.value
    c.as_slice-3.ensures.value c.in_ok-push_findings.ensures c.in_ok-push_breaches.ensures)
    c.push_flow_breaches.ensures
