use Rattle.std.proofs.Common.{◌≡◌, drop}
use Rattle.std.specs.List.{list_any}
use Rattle.gt_explore_trace.specs.Diagram.{touches_table}
use Rattle.gt_explore_trace.proofs.diagram.is_touched.Given as goal

abbrev pub invariant-moves : goal.invariant-moves
invariant-moves l =
    list_any (touches_table l.owner) l.moves ≡ list_any (touches_table l.owner) (drop l.traced-index l.moves)
