use Rattle.std.proofs.Common.{◌≡◌}
use Rattle.gt_findings.specs.Findings.{error_lines}
use Rattle.gt_check_command.proofs.script_findings.block.push_warnings.Given as goal

abbrev pub invariant-more : goal.invariant-more
invariant-more l = error_lines l.found.items ≡ error_lines l.initial.found.items
