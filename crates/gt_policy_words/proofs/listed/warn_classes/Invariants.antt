use Rattle.std.proofs.Common.{◌≡◌, ◌++◌, take}
use Rattle.std.specs.List.{flat_map}
use Rattle.gt_findings.specs.Findings.{KeepsColumns, Quiet}
use Rattle.gt_findings.specs.Findings.{class_lines}
use Rattle.gt_policy_words.specs.Words.{unknown_line}
use Rattle.gt_policy_words.proofs.listed.warn_classes.Given as goal

abbrev pub invariant-classes : goal.invariant-classes
invariant-classes l =
    Quiet l.initial.found.items l.found.items
    × (class_lines l.found.items ≡ class_lines l.initial.found.items ++ flat_map (unknown_line l.place.words.now.number) (take l.class-index l.classes))
    × KeepsColumns l.place.words.now.bytes.now l.initial.found.items l.found.items
