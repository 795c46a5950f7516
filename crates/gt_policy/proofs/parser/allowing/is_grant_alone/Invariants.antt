use Rattle.std.proofs.Common.{◌≡◌, drop}
use Rattle.gt_policy.specs.Grammar.{is_grant_alone}
use Rattle.gt_policy.proofs.parser.allowing.is_grant_alone.Given as goal

abbrev pub invariant-loop-class : goal.invariant-loop-class
invariant-loop-class l = is_grant_alone l.classes ≡ is_grant_alone (drop l.class-index l.classes)
