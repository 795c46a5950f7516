use Rattle.std.proofs.Common.{◌≤◌, ◌∙◌, List, ℕ, subst, sym}
use Rattle.gt_script.specs.RunContents.{run_contents}
use Rattle.gt_explore_answers.specs.Outputs.{found_from}
use Rattle.gt_explore_answers.specs.Witness.{IsTextNumbered}
use Rattle.gt_explore_changes.specs.Blocks.{blocks_in}
use Rattle.gt_explore_changes.specs.Fewest.{HasAtLeast}
use Rattle.gt_explore_tracing.specs.MoveBlocks.{move_blocks}
use Rattle.gt_explore_tracing.proofs.Blocks.{at-least-fewer, moves-no-more}
use Rattle.gt_explore_tracing.proofs.fewest.fewest_moves.Goals as goal

pub returns : goal.returns
returns g c =
    let script = run_contents c.args.script.now in
    let turns = c.in_ok-fewest.fewest.order.turns.items in
    let moves = c.in_ok-moves.moves.items in
    let few : move_blocks moves ≤ blocks_in turns = moves-no-more script.head.domains turns moves c.in_ok-moves.ensures.turned in record {
      numbered = subst (λ (t : List ℕ). IsTextNumbered (found_from c.args.found.now).texts c.args.number t) (sym (c.in_ok-fewest.ensures.text ∙ c.in_ok-given.ensures)) c.in_ok-numbered.ensures;
      gives = c.in_ok-moves.ensures.gives;
      fewest = λ yes. subst (λ (t : List ℕ). HasAtLeast script t (move_blocks moves)) (sym c.in_ok-fewest.ensures.text)
          (at-least-fewer script c.in_ok-given.given.text.items (move_blocks moves) (blocks_in turns) few (c.in_ok-fewest.ensures.fewest yes));
    }
