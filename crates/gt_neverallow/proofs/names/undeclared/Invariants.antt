use Rattle.std.proofs.Common.{◌≡◌, drop}
use Rattle.std.specs.List.{flat_map}
use Rattle.gt_neverallow.specs.Naming.{mentions_of, undeclared}
use Rattle.gt_neverallow.proofs.names.undeclared.Given as goal

abbrev pub invariant-nevers : goal.invariant-nevers
invariant-nevers l = undeclared l.statements (flat_map mentions_of l.nevers) ≡ undeclared l.statements (flat_map mentions_of (drop l.never-index l.nevers))
