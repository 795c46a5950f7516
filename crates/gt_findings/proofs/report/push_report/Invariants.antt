use Rattle.std.proofs.Common.{take}
use Rattle.gt_findings.specs.Report.{AddsText, IsTextOfAll, IsFindingText}
use Rattle.gt_findings.proofs.report.push_report.Given as goal

abbrev pub invariant-found : goal.invariant-found
invariant-found l = AddsText (IsTextOfAll (IsFindingText l.form l.file) (take l.finding-index l.found)) l.initial.out.items l.out.items
