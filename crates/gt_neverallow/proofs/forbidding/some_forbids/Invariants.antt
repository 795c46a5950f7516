use Rattle.std.proofs.Common.{◌≡◌, drop}
use Rattle.std.specs.List.{list_any}
use Rattle.gt_neverallow.specs.Breaking.{forbids_some}
use Rattle.gt_neverallow.proofs.forbidding.some_forbids.Given as goal

abbrev pub invariant-nevers : goal.invariant-nevers
invariant-nevers l = list_any forbids_some l.nevers ≡ list_any forbids_some (drop l.never-index l.nevers)
