use Rattle.std.proofs.Common.{take}
use Rattle.std.specs.Prelude.{All}
use Rattle.gt_policy_check.specs.Earlier.{HasNoTarget}
use Rattle.gt_policy_check.proofs.earlier.first_pair.Given as goal

abbrev pub invariant-sources : goal.invariant-sources
invariant-sources l = All (HasNoTarget l.members l.allowed) (take l.source-index l.sources)
