use Rattle.std.proofs.Common.{◌≡◌, drop}
use Rattle.gt_policy.specs.Kept.{some_grants}
use Rattle.gt_policy.proofs.policy.some_grants.Given as goal

abbrev pub invariant-loop-rule : goal.invariant-loop-rule
invariant-loop-rule l = some_grants l.rules l.source.0 l.target.0 l.perm ≡ some_grants (drop l.rule-index l.rules) l.source.0 l.target.0 l.perm
