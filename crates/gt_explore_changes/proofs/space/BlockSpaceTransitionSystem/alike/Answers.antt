use Rattle.std.proofs.Common.{◌∙◌}
use Rattle.gt_explore_moves.specs.Parts.{parts_of}
use Rattle.gt_explore_changes.proofs.Joined.{same-scenes}
use Rattle.gt_explore_changes.proofs.space.BlockSpaceTransitionSystem.alike.Goals as goal

pub returns : goal.returns
returns c = λ w v each p shows. record {
  run = c.alike.ensures w.scene_state v.scene_state (same-scenes (parts_of w.scene_state) (parts_of v.scene_state) each.1) p.run shows.run;
  last = each.0.0 ∙ shows.last;
  blocks = each.0.1 ∙ shows.blocks;
}
