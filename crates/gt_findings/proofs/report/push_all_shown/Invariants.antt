use Rattle.std.proofs.Common.{◌≡◌, ◌++◌}
use Rattle.gt_findings.specs.Report.{shown_text}
use Rattle.gt_findings.proofs.report.push_all_shown.Given as goal

abbrev pub invariant-letters : goal.invariant-letters
invariant-letters l = l.out.items ≡ l.initial.out.items ++ shown_text l.yielded
