use Rattle.std.proofs.Common.{◌≡◌, drop}
use Rattle.std.specs.List.{list_any}
use Rattle.gt_neverflow.specs.Flowing.{flow_from}
use Rattle.gt_neverflow.proofs.flowing.some_flow_from.Given as goal

abbrev pub invariant-nevers : goal.invariant-nevers
invariant-nevers l =
    list_any (flow_from l.members l.source) l.nevers ≡ list_any (flow_from l.members l.source) (drop l.never-index l.nevers)
