use Rattle.std.proofs.Common.{sym, subst}
use Rattle.std.proofs.lemmas.Bool.{eqb-true}
use Rattle.gt_explore_changes.specs.Parts.{SameBlockPart}
use Rattle.gt_explore_changes.specs.declared.parts.BlockPart.{BlockPart}
use Rattle.gt_explore_changes.specs.declared.parts.BlockPart.TheVariants.{Blocks, Scene}
use Rattle.gt_explore_changes.proofs.Joined.{blocks-at, none-zero, scene-part-at}
use Rattle.gt_explore_changes.proofs.space.BlockSpaceTransitionSystem.has_part.Goals as goal

pub returns-in-Some-Scene : goal.returns-in-Some-Scene
returns-in-Some-Scene c = λ yes.
    let (p, there, same) = c.has_part.ensures yes in
    (Scene p, scene-part-at c.args.state.now c.args.at c.in-Some-Scene.at p c.in-Some-Scene.ensures.0 c.in-Some-Scene.ensures.1 there, subst (λ (q : BlockPart). SameBlockPart (Scene p) q) (sym c.in-Some-Scene.is-1) same)

pub returns-then-is_same_last : goal.returns-then-is_same_last
returns-then-is_same_last c = λ yes.
    let w = c.args.state.now in
    (Blocks w.last w.blocks, blocks-at w c.args.at (none-zero c.args.at c.checked_sub.result c.checked_sub.ensures c.in-None-Blocks.is-0), subst (λ (q : BlockPart). SameBlockPart (Blocks w.last w.blocks) q) (sym c.in-None-Blocks.is-1) (c.is_same_last.ensures c.if-is_same_last.true, sym (eqb-true w.blocks _ yes)))
