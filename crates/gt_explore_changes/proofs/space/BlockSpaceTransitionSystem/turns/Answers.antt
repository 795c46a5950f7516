use Rattle.std.proofs.Common.{List, ap, ◌∙◌}
use Rattle.std.specs.Prelude.{filter}
use Rattle.gt_explore_changes.specs.Waiting.{may_end_within}
use Rattle.gt_explore_search.specs.declared.spaces.Turn.{Turn}
use Rattle.gt_explore_changes.proofs.Spaces.{turns-enough}
use Rattle.gt_explore_changes.proofs.space.BlockSpaceTransitionSystem.turns.Goals as goal

pub returns : goal.returns
returns c = turns-enough c.args.self.now.scene c.args.self.now.most c.args.state.now c.in_ok-all.all.items _ c.in_ok-all.ensures
    (c.in_ok-turns_left.ensures ∙ ap (λ (all : List Turn). filter (may_end_within c.args.self.now.most c.args.self.now.scene c.args.state.now) all) c.as_slice.ensures.value)
