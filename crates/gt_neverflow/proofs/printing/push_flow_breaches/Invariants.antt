use Rattle.std.proofs.Common.{take}
use Rattle.gt_findings.specs.Report.{AddsText}
use Rattle.gt_neverflow.specs.Printing.{IsFlowBreachReport}
use Rattle.gt_neverflow.proofs.printing.push_flow_breaches.Given as goal

abbrev pub invariant-found : goal.invariant-found
invariant-found l = AddsText (IsFlowBreachReport l.fn.form l.file l.never.text.now (take l.breach-index l.found))
    l.initial.out.items l.out.items
