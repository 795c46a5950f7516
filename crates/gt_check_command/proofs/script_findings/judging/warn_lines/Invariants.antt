use Rattle.std.proofs.Common.{◌≡◌}
use Rattle.gt_findings.specs.Findings.{error_lines}
use Rattle.gt_check_command.proofs.script_findings.judging.warn_lines.Given as goal

abbrev pub invariant-lines : goal.invariant-lines
invariant-lines l = error_lines l.found.items ≡ error_lines l.initial.found.items
