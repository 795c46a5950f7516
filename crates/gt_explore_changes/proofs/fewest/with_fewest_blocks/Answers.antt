use Rattle.std.proofs.Common.{◌≡◌, ◌≤◌, ℕ, List, suc, ap, subst, ◌∙◌, arith}
use Rattle.gt_explore_changes.specs.Blocks.{blocks_in, order_blocks}
use Rattle.gt_explore_changes.specs.Fewest.{HasAtLeast, IsSearchedWithin}
use Rattle.gt_explore_changes.specs.declared.fewest.FewerBlocks.{FewerBlocks}
use Rattle.gt_script.specs.RunContents.{run_contents}
use Rattle.gt_explore_changes.proofs.fewest.with_fewest_blocks.Goals as goal

pub returns-in-Found-clause-fewest : goal.returns-in-Found-clause-fewest
returns-in-Found-clause-fewest g c = λ yes hs order.
    let few : blocks_in c.in-Found.turns.items ≤ c.loop-most.most =
    subst (λ (found : FewerBlocks). IsSearchedWithin (run_contents c.args.script.now) c.as_slice-in-loop-most.result.now c.loop-most.most found) c.in-Found.is c.in_ok-turns.ensures in
    let least : c.loop-most.most ≤ order_blocks hs = c.loop-most.invariant hs order in
    omega (arith, few, least)

pub loop-most-preserved : goal.loop-most-preserved
loop-most-preserved g c = λ hs order.
    let none : HasAtLeast (run_contents c.args.script.now) c.as_slice-in-loop-most.result.now (suc c.loop-most.most) =
    subst (λ (found : FewerBlocks). IsSearchedWithin (run_contents c.args.script.now) c.as_slice-in-loop-most.result.now c.loop-most.most found) c.in-Nowhere.is c.in_ok-turns.ensures in
    let more : HasAtLeast (run_contents c.args.script.now) c.args.order.text.items (suc c.loop-most.most) =
    subst (λ (text : List ℕ). HasAtLeast (run_contents c.args.script.now) text (suc c.loop-most.most)) c.as_slice-in-loop-most.ensures.value none in
    let least : suc c.loop-most.most ≤ order_blocks hs = more hs order in
    omega (arith, least)

pub returns-clause-fewest : goal.returns-clause-fewest
returns-clause-fewest g c = λ yes hs order.
    let least : c.loop-most.most ≤ order_blocks hs = c.loop-most.invariant hs order in
    let same : c.blocks_in-blocks.result ≡ blocks_in c.args.order.turns.items = c.blocks_in-blocks.ensures ∙ ap blocks_in c.as_slice.ensures.value in
    let past = c.loop-most-test.false in
    omega (arith, least, same, past)
