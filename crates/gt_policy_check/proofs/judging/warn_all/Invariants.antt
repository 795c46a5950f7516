use Rattle.std.proofs.Common.{◌≡◌, ◌++◌, [], take, drop}
use Rattle.std.specs.List.{flat_map}
use Rattle.std.specs.Prelude.{All}
use Rattle.gt_findings.specs.Findings.{HasColumn, error_lines, nothing_lines, repeat_lines}
use Rattle.gt_policy_check.specs.Check.{repeated_with, useless_line}
use Rattle.gt_policy_check.specs.Earlier.{ListsEarlier}
use Rattle.gt_findings.specs.LineWords.{IsLineWords}
use Rattle.gt_policy_check.proofs.judging.warn_all.Given as goal

abbrev pub invariant-statements : goal.invariant-statements
invariant-statements l = record {
  knows : ListsEarlier l.policy.members.now (take l.i l.policy.statements.now) l.progress.earlier;
  words : IsLineWords l.progress.words;
  text : l.progress.words.bytes.now ≡ l.policy.bytes.now;
  errors : error_lines l.found.items ≡ [];
  nothing : nothing_lines l.found.items ≡ flat_map (λ x. useless_line l.policy.members.now x) (take l.i l.policy.statements.now);
  repeated : repeat_lines l.found.items ++ repeated_with l.policy.members.now (take l.i l.policy.statements.now) (drop l.i l.policy.statements.now)
      ≡ repeated_with l.policy.members.now [] l.policy.statements.now;
  columns : All (HasColumn l.policy.bytes.now) l.found.items;
}
