use Rattle.std.proofs.Common.{refl}
use Rattle.gt_explore_changes.specs.declared.parts.BlockPart.TheVariants.{Blocks, Scene}
use Rattle.gt_explore_changes.proofs.Joined.{blocks-at, scene-part-at}
use Rattle.gt_explore_changes.proofs.space.BlockSpaceTransitionSystem.copy_part.Goals as goal

pub returns-in_ok-part-in-Some : goal.returns-in_ok-part-in-Some
returns-in_ok-part-in-Some c =
    let (p, there, same) = c.in_ok-part-in-Some.ensures in
    (Scene p, scene-part-at c.args.state.now c.args.at c.in-Some.at p c.in-Some.ensures.0 c.in-Some.ensures.1 there, same)

pub returns-in-None : goal.returns-in-None
returns-in-None c = (Blocks c.args.state.now.last c.args.state.now.blocks, blocks-at c.args.state.now c.args.at c.in-None.ensures, (refl, refl))
