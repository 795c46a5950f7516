use Rattle.gt_flow.specs.Accesses.{flows}
use Rattle.gt_flow.specs.Paths.{hop_from}
use Rattle.gt_flow.proofs.Looking.{asked, found-one, left-one}
use Rattle.gt_flow.proofs.searching.reach_from.Goals.{then-is_some+in_ok-push, else-is_some+in_ok-push-2}
use Rattle.gt_flow.proofs.searching.reach_from.Goals as goal

pub left-preserved : goal.left-preserved
left-preserved g c = elim c.if-is_some.branch [
  | then-is_some+in_ok-push w ↦ rw (w.reached-is, w.rest-is, w.in_ok-push.ensures.items)
      (found-one (flows (g.P.Allows.may c.args.policy.now) c.is_among-is_trusted.result c.args.x.reach.id)
      (hop_from c.args.x.at c.args.x.reach) c.args.reached.now.items c.args.left.now c.left.y-index _ c.left-test.true
      c.left.reached.items c.left.rest.items c.left.invariant
      (asked (g.P.Allows.may c.args.policy.now) c.is_among-is_trusted.result c.args.x.reach.id _ _ _ _ c.access_between.ensures
      c.is_some.ensures w.if-is_some.true))
  | else-is_some+in_ok-push-2 w ↦ rw (w.reached-is, w.rest-is, w.in_ok-push-2.ensures.items)
      (left-one (flows (g.P.Allows.may c.args.policy.now) c.is_among-is_trusted.result c.args.x.reach.id)
      (hop_from c.args.x.at c.args.x.reach) c.args.reached.now.items c.args.left.now c.left.y-index _ c.left-test.true
      c.left.reached.items c.left.rest.items c.left.invariant
      (asked (g.P.Allows.may c.args.policy.now) c.is_among-is_trusted.result c.args.x.reach.id _ _ _ _ c.access_between.ensures
      c.is_some.ensures w.if-is_some.false))
]
