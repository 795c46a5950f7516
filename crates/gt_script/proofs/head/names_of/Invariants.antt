use Rattle.std.proofs.Common.{◌≡◌, take}
use Rattle.gt_script.proofs.head.names_of.Given as goal

abbrev pub invariant-types : goal.invariant-types
invariant-types l = l.names.items ≡ take l.id l.policy.types
