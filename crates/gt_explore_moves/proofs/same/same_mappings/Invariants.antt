use Rattle.std.proofs.Common.{◌≡◌, take}
use Rattle.gt_explore_moves.specs.Mappings.{labels_of, mapping_pins}
use Rattle.gt_explore_moves.proofs.same.same_mappings.Given as goal

abbrev pub invariant-mappings : goal.invariant-mappings
invariant-mappings l =
    (mapping_pins (take l.at l.other) ≡ mapping_pins (take l.at l.one)) × (labels_of (take l.at l.other) ≡ labels_of (take l.at l.one))
