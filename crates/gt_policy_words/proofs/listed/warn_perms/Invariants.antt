use Rattle.gt_findings.specs.Findings.{KeepsColumns, Quiet}
use Rattle.gt_policy_words.proofs.listed.warn_perms.Given as goal

abbrev pub invariant-perms : goal.invariant-perms
invariant-perms l = Quiet l.initial.found.items l.found.items × KeepsColumns l.place.words.now.bytes.now l.initial.found.items l.found.items
