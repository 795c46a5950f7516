use Rattle.std.proofs.Common.{take}
use Rattle.gt_findings.specs.Report.{AddsText}
use Rattle.gt_neverallow.specs.Printing.{IsBreachReport}
use Rattle.gt_neverallow.proofs.printing.push_breaches.Given as goal

abbrev pub invariant-found : goal.invariant-found
invariant-found l = AddsText (IsBreachReport l.form l.texts.file.now l.texts.policy.text.now l.texts.never_file.now
    l.texts.never.text.now (take l.breach-index l.found)) l.initial.out.items l.out.items
