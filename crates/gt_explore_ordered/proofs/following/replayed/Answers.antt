use Rattle.std.proofs.Common.{◌++◌, ◌∷◌, ◌∙◌, ◌≡◌, []}
use Rattle.std.proofs.lemmas.Option.{same_Some}
use Rattle.gt_explore_replay.specs.Orders.{doer}
use Rattle.gt_script.specs.RunContents.{run_contents}
use Rattle.gt_explore_ordered.proofs.Reading.{moves-more}
use Rattle.gt_explore_ordered.proofs.following.replayed.Goals as goal

pub turns-preserved : goal.turns-preserved
turns-preserved c =
    let d = run_contents c.args.script.now in
    let (hs, walked, moves) = c.turns.invariant in
    let on = rw c.in-Some-Some.is-1 at c.in_ok-moved.ensures.walks d hs walked in
    let own : c.in-Some-Some.dom ≡ doer on.happened = same_Some _ _ (c.in-Some-Some.ensures ∙ on.own_move) in (
      hs ++ on.happened ∷ [],
      on.walked,
      moves-more c.turns.moves.items c.push.new.self.items c.call_move.result hs on.happened moves c.in_ok-push-in-Some-Some.ensures.items (c.call_move.ensures on.happened on.shown own),
    )

pub returns-in-Some : goal.returns-in-Some
returns-in-Some c =
    let (hs, walked, moves) = c.turns.invariant in
    (hs, rw c.in-Some.is at c.in_ok-made.ensures.order (run_contents c.args.script.now) hs walked, moves)
