use Rattle.std.proofs.Common.{take}
use Rattle.gt_explore_moves.specs.Placing.{ArePlaced}
use Rattle.gt_explore_moves.proofs.names.names_of.Given as goal

abbrev pub invariant-loop-mapping : goal.invariant-loop-mapping
invariant-loop-mapping l =
    ArePlaced l.dom (take l.mapping-index l.held) (record { mappings = l.mappings; handles = l.handles; labels = l.labels })
