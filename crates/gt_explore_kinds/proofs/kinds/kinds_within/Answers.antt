use Rattle.gt_script.specs.RunContents.{run_contents}
use Rattle.gt_explore_kinds.proofs.Found.{kind_found}
use Rattle.gt_explore_kinds.proofs.kinds.kinds_within.Goals as goal

pub returns : goal.returns
returns g c = record {
  possible = c.in_ok-texts.ensures.possible;
  whole = λ over.
      kind_found c.in_ok-scene.scene c.args.expressions.now (run_contents c.args.script.now) c.in_ok-partial.partial.found c.in_ok-texts.texts.items (c.in_ok-scene.ensures c.requires.numbered) c.every_order_has_turns.ensures
      (c.in_ok-partial.ensures over) c.in_ok-texts.ensures.marks;
}
