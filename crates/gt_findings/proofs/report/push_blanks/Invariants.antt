use Rattle.std.specs.List.{AllPass}
use Rattle.gt_findings.specs.Report.{is_space_or_tab, AddsText}
use Rattle.gt_findings.proofs.report.push_blanks.Given as goal

abbrev pub invariant-letters : goal.invariant-letters
invariant-letters l = AddsText (AllPass is_space_or_tab) l.initial.out.items l.out.items
