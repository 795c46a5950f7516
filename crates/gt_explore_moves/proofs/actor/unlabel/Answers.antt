use Rattle.std.proofs.Common.{◌<◌, ◌≤◌, length, ap, ◌∙◌, arith}
use Rattle.gt_explore_moves.proofs.Unlabelled.{none-yet, labels-step, pins-step, labels-all, whole}
use Rattle.gt_explore_moves.specs.Mappings.{labels_of, mapping_pins, label_bytes}
use Rattle.gt_explore_moves.proofs.actor.unlabel.Goals as goal

pub loop-mapping-init : goal.loop-mapping-init
loop-mapping-init c = record {
  pins = ap mapping_pins c.as_mut_slice-mapping-items.ensures.value;
  labels = ap labels_of c.as_mut_slice-mapping-items.ensures.value ∙ none-yet (label_bytes c.args.label) (labels_of c.args.mappings.now.items);
}

pub loop-mapping-preserved : goal.loop-mapping-preserved
loop-mapping-preserved c = let l = c.loop-mapping in let orig = c.args.mappings.now.items in
    let lt : l.mapping-index < length l.mapping-items = omega arith in record {
      pins = pins-step l.mapping-index l.mapping-items orig _ c.unless_given.result c.unless_given.ensures.pin l.invariant.pins;
      labels = labels-step (label_bytes c.args.label) l.mapping-index l.mapping-items orig _ c.unless_given.result lt c.unless_given.ensures.label l.invariant.labels;
    }

pub returns-clause-pins : goal.returns-clause-pins
returns-clause-pins c = let l = c.loop-mapping in
    ap mapping_pins (whole c.args.mappings.now.len l.mapping-items c.args.mappings.now.items (l.auto.mapping-items ∙ c.as_mut_slice-mapping-items.ensures.len)) ∙ l.invariant.pins

pub returns-clause-labels : goal.returns-clause-labels
returns-clause-labels c = let l = c.loop-mapping in
    let le : length l.mapping-items ≤ l.mapping-index = omega arith in
    ap labels_of (whole c.args.mappings.now.len l.mapping-items c.args.mappings.now.items (l.auto.mapping-items ∙ c.as_mut_slice-mapping-items.ensures.len))
    ∙ labels-all (label_bytes c.args.label) l.mapping-index l.mapping-items c.args.mappings.now.items le l.invariant.pins l.invariant.labels
