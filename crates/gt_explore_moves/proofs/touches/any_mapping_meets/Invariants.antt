use Rattle.std.proofs.Common.{◌≡◌, drop}
use Rattle.std.specs.List.{list_any}
use Rattle.gt_explore_moves.specs.Touches.{meets_mapping}
use Rattle.gt_explore_moves.specs.declared.actor.LabelledMapping.{LabelledMapping}
use Rattle.gt_explore_moves.proofs.touches.any_mapping_meets.Given as goal

abbrev pub invariant-mappings : goal.invariant-mappings
invariant-mappings l = list_any (λ (m : LabelledMapping). meets_mapping l.uses l.next m.held) l.mappings ≡ list_any (λ (m : LabelledMapping). meets_mapping l.uses l.next m.held) (drop l.mapping-index l.mappings)
