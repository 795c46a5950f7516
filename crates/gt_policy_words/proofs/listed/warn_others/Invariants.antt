use Rattle.std.proofs.Common.{◌≡◌}
use Rattle.gt_findings.specs.Findings.{KeepsColumns, Quiet}
use Rattle.gt_findings.specs.Findings.{class_lines}
use Rattle.gt_policy_words.proofs.listed.warn_others.Given as goal

abbrev pub invariant-perms : goal.invariant-perms
invariant-perms l = Quiet l.initial.found.items l.found.items × (class_lines l.found.items ≡ class_lines l.initial.found.items)
    × KeepsColumns l.place.words.now.bytes.now l.initial.found.items l.found.items
