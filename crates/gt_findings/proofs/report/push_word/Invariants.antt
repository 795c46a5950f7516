use Rattle.std.proofs.Common.{◌≡◌, ◌≤◌, ◌++◌, length}
use Rattle.gt_findings.specs.Report.{shown_text}
use Rattle.gt_findings.proofs.report.push_word.Given as goal

abbrev pub invariant-letters : goal.invariant-letters
invariant-letters l = record {
  written : l.out.items ≡ l.initial.out.items ++ shown_text l.yielded;
  many : l.count ≡ length l.yielded;
  few : l.count ≤ 160;
}
