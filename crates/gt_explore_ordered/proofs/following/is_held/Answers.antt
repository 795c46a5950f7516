use Rattle.std.proofs.Common.{◌≤◌, ◌+◌, ◌≡◌, ◌∙◌, ℕ, arith, ap, false, get_or, length, List, map, refl, sym}
use Rattle.std.proofs.lemmas.List.{length-map}
use Rattle.std.proofs.lemmas.Option.{slice_get-get_or}
use Rattle.gt_explore_replay.specs.Orders.{Happening}
use Rattle.gt_explore_ordered.specs.Holding.{move_shown}
use Rattle.gt_explore_ordered.specs.declared.following.CallMove.{CallMove}
use Rattle.gt_explore_ordered.proofs.Reading.{answered-few, begun-few, held-here, none-held, read-more}
use Rattle.gt_explore_ordered.proofs.following.is_held.Goals as goal

pub loop-at-init : goal.loop-at-init
loop-at-init c = record {
  begun_few = omega arith;
  answered_few = omega arith;
  read = λ hs are. record { begun_is = refl; answered_is = refl; left = refl };
}

pub returns-then-is_completed : goal.returns-then-is_completed
returns-then-is_completed c = λ hs are.
    let m = get_or c.args.moves.now c.loop-at.at (record { dom = record { 0 = 0 }; begins = false; answers = false }) in
    held-here c.args.order.now c.args.moves.now c.loop-at.at c.loop-at.begun c.loop-at.answered m (slice_get-get_or c.args.moves.now c.loop-at.at _ c.loop-at-test.true) hs are (c.loop-at.invariant.read hs are)
    (sym c.is_completed.ensures ∙ c.if-is_completed.true)

pub loop-at-preserved : goal.loop-at-preserved
loop-at-preserved c =
    let m = get_or c.args.moves.now c.loop-at.at (record { dom = record { 0 = 0 }; begins = false; answers = false }) in
    let e = c.calls_begun_by-begun.ensures in let f = c.calls_answered_by-answered.ensures in record {
      begun_few = let few = begun-few c.args.order.now.second.dom m in let before = c.loop-at.invariant.begun_few in omega (arith, few, e, before);
      answered_few = let few = answered-few c.args.order.now.first.dom m in let before = c.loop-at.invariant.answered_few in omega (arith, few, f, before);
      read = λ hs are.
          read-more c.args.order.now c.args.moves.now c.loop-at.at c.loop-at.begun c.loop-at.answered m (slice_get-get_or c.args.moves.now c.loop-at.at _ c.loop-at-test.true) hs are (c.loop-at.invariant.read hs are)
          (sym c.is_completed.ensures ∙ c.if-is_completed.false) _ _ _ refl (ap (λ (n : ℕ). c.loop-at.begun + n) e) (ap (λ (n : ℕ). c.loop-at.answered + n) f);
    }

pub returns : goal.returns
returns c = λ hs are.
    let past : length c.args.moves.now ≤ c.loop-at.at = omega (arith, c.loop-at-test.false) in
    let many : length c.args.moves.now ≡ length hs = ap (λ (l : List CallMove). length l) are ∙ length-map hs move_shown in
    none-held c.args.order.now c.loop-at.at c.loop-at.begun c.loop-at.answered hs (c.loop-at.invariant.read hs are) (omega (arith, past, many))
