use Rattle.std.proofs.Common.{◌≡◌, length}
use Rattle.gt_policy_check.proofs.earlier.EarlierStatements.new.Given as goal

abbrev pub invariant-members : goal.invariant-members
invariant-members l = length l.of_source.items ≡ l.index
