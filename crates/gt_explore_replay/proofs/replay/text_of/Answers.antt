use Rattle.std.proofs.Common.{rules, ◌≡◌, [], ◌<◌, ◌≤◌, length, arith, false}
use Rattle.std.specs.Prelude.{is_some, IsSome}
use Rattle.gt_script.specs.RunContents.{run_contents}
use Rattle.gt_explore_replay.proofs.Coming.{walked_on}
use Rattle.gt_explore_replay.proofs.Ending.{some_order}
use Rattle.gt_explore_replay.proofs.Following.{follows_first, follows_more, follows_over, follows_turn, not_both}
use Rattle.gt_explore_replay.proofs.replay.text_of.Goals as goal

pub turns-init : goal.turns-init
turns-init c = record {
  walked = ([], c.in_ok-run.ensures.walks);
  follows = follows_first (run_contents c.args.script.now) c.args.script.now.flags c.args.turns.now _ c.in_ok-run.ensures.abreast;
}

pub turns-preserved : goal.turns-preserved
turns-preserved c =
    let on = c.in_ok-moved.ensures.walks (run_contents c.args.script.now) c.turns.invariant.walked.0 c.turns.invariant.walked.1 in
    let within : c.turns.turn-index < length c.args.turns.now = c.turns-test.true in
    record {
      walked = walked_on (run_contents c.args.script.now) c.turns.invariant.walked.0 _ _ c.in_ok-moved.moved on (search rules);
      follows =
          follows_more (run_contents c.args.script.now) c.args.script.now.flags c.args.turns.now c.turns.turn-index _ _ _ _ within
          (c.in_ok-moved.ensures.abreast (run_contents c.args.script.now)) c.turns.invariant.follows;
    }

pub returns-clause-possible : goal.returns-clause-possible
returns-clause-possible c =
    some_order (λ v. v.items) (run_contents c.args.script.now) c.turns.invariant.walked.0 c.in_ok-text.field-0
    (c.in_ok-text.ensures.order (run_contents c.args.script.now) c.turns.invariant.walked.0 c.turns.invariant.walked.1)

pub returns-clause-whole : goal.returns-clause-whole
returns-clause-whole c = λ hs text numbered turned.
    let all : length c.args.turns.now ≤ c.turns.turn-index = omega (arith, c.turns-test.false) in
    follows_over (λ v. v.items) (run_contents c.args.script.now) hs text c.args.script.now.flags c.args.turns.now c.turns.turn-index c.turns.run c.in_ok-text.field-0
    all c.turns.invariant.follows numbered turned (c.in_ok-text.ensures.whole (run_contents c.args.script.now))

pub returns-then-is_none-clause-whole : goal.returns-then-is_none-clause-whole
returns-then-is_none-clause-whole c = λ hs text numbered turned.
    let within : c.turns.turn-index < length c.args.turns.now = c.turns-test.true in
    let some = follows_turn (IsSome c.in_ok-moved.moved) (run_contents c.args.script.now) hs text c.args.script.now.flags c.args.turns.now c.turns.turn-index _ _ within
    (λ before ks x k j abreast at leads may. (c.in_ok-moved.ensures.abreast (run_contents c.args.script.now) before ks x k j abreast at leads may).0) c.turns.invariant.follows numbered turned in
    let was = c.is_none.ensures in
    let is = c.if-is_none.true in
    let isnt : is_some c.in_ok-moved.moved ≡ false = first_of (search rules, grind (arith, was, is), cc) in
    absurd (not_both (is_some c.in_ok-moved.moved) some isnt)
