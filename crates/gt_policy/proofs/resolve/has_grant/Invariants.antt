use Rattle.std.proofs.Common.{◌≡◌, drop}
use Rattle.gt_policy.specs.Resolving.{has_grant}
use Rattle.gt_policy.proofs.resolve.has_grant.Given as goal

abbrev pub invariant-loop-class : goal.invariant-loop-class
invariant-loop-class l = has_grant l.classes ≡ has_grant (drop l.class-index l.classes)
