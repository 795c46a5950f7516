use Rattle.std.proofs.Common.{◌≡◌}
use Rattle.gt_explore_moves.specs.Mappings.{labels_of, mapping_pins, label_bytes}
use Rattle.gt_explore_moves.proofs.Unlabelled.{apart_up_to}
use Rattle.gt_explore_moves.proofs.actor.unlabel.Given as goal

abbrev pub invariant-loop-mapping : goal.invariant-loop-mapping
invariant-loop-mapping l = record {
  pins : mapping_pins l.mapping-items ≡ mapping_pins l.fn.mappings.items;
  labels : labels_of l.mapping-items ≡ apart_up_to l.mapping-index (label_bytes l.label) (labels_of l.fn.mappings.items);
}
