use Rattle.std.proofs.Common.{◌≡◌, drop}
use Rattle.gt_policy.specs.Resolving.{perms_from, no_perms}
use Rattle.gt_policy.proofs.resolve.perms_of.Given as goal

abbrev pub invariant-loop-word : goal.invariant-loop-word
invariant-loop-word l = perms_from l.perms (drop l.word-index l.words) ≡ perms_from no_perms l.words
