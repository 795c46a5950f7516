use Rattle.std.proofs.Common.{◌∙◌}
use Rattle.gt_explore_changes.specs.Parts.{joined_in}
use Rattle.gt_explore_changes.proofs.Joined.{read-as}
use Rattle.gt_explore_changes.proofs.space.BlockSpaceTransitionSystem.join.Goals as goal

pub returns : goal.returns
returns c = λ w each.
    let read = read-as w c.args.made.items (joined_in c.in_ok-joined.joined) c.in_ok-joined.ensures each in
    λ p shows. record { run = c.in_ok-scene_state.ensures w.scene_state read.parts p.run shows.run; last = read.last ∙ shows.last; blocks = read.blocks ∙ shows.blocks }
