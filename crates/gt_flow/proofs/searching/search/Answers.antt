use Rattle.std.proofs.Common.{arith}
use Rattle.gt_flow.specs.Accesses.{flows, is_among}
use Rattle.gt_flow.specs.Paths.{hop_from}
use Rattle.gt_flow.proofs.Growing.{here-is, one-more, searched}
use Rattle.gt_flow.proofs.Looking.{less-to-do}
use Rattle.gt_flow.proofs.searching.search.Goals as goal

pub reached-smaller : goal.reached-smaller
reached-smaller g c =
    let x = c.index-reach.result.now in
    less-to-do (flows (g.P.Allows.may c.args.policy.now) (is_among c.args.trusted.now x.id) x.id)
    (hop_from c.reached.at x) c.reached.reached.items c.reach_from.new.reached.items c.reached.left.items
    c.as_slice.result.now c.in_ok-left-2.left.items c.reached.at c.as_slice.ensures.value
    (omega (arith, c.reached-test.true, c.len.ensures)) c.in_ok-left-2.ensures.found c.in_ok-left-2.ensures.rest

pub reached-preserved : goal.reached-preserved
reached-preserved g c =
    let x = c.index-reach.result.now in
    rw (c.in_ok-left-2.ensures.found, c.in_ok-left-2.ensures.rest, c.as_slice.ensures.value)
    (one-more (g.P.Allows.may c.args.policy.now) (is_among c.args.trusted.now) c.args.source c.args.count c.requires.among
    c.reached.at c.reached.reached.items c.reached.left.items c.reached.invariant x
    (here-is c.reached.reached.items c.reached.at x (omega (arith, c.reached-test.true, c.len.ensures)) c.index-reach.ensures))

pub returns : goal.returns
returns g c = searched (g.P.Allows.may c.args.policy.now) (is_among c.args.trusted.now) c.args.source c.args.count
    c.reached.reached.items c.reached.left.items c.reached.at (omega (arith, c.reached-test.false, c.len.ensures))
    c.reached.invariant
