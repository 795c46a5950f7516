use Rattle.gt_calls.specs.Known.{knows}
use Rattle.gt_live.proofs.Tries.{map-can-walk, map-walked, opened}
use Rattle.gt_live.proofs.driving.drive_map.Goals as goal

pub walk_leg_at-requires-clause-can : goal.walk_leg_at-requires-clause-can
walk_leg_at-requires-clause-can g c =
    let known = knows g.P.Allows.may c.args.known.now in let k = c.args.words.now.layout in let leg = c.args.placed.now.leg in
    let v = c.args.seat.now.view in let a = c.args in let law = c.every_call_goes_on_by_its_phase.ensures known in
    map-can-walk known law k v a.caller a.map.dom a.map.gref a.map.flags leg c.requires.knows
    (opened known law k v a.caller a.map.dom a.map.gref a.map.flags leg c.requires.knows c.requires.unanswered c.requires.leg)

pub returns-clause-called : goal.returns-clause-called
returns-clause-called g c =
    let known = knows g.P.Allows.may c.args.known.now in let k = c.args.words.now.layout in let leg = c.args.placed.now.leg in
    let v = c.args.seat.now.view in let a = c.args in let law = c.every_call_goes_on_by_its_phase.ensures known in
    (map-walked known law k v a.caller a.map.dom a.map.gref a.map.flags leg c.requires.knows c.walk_leg_at.result c.walk_leg_at.new.seat.view
    (opened known law k v a.caller a.map.dom a.map.gref a.map.flags leg c.requires.knows c.requires.unanswered c.requires.leg)
    c.walk_leg_at.ensures.walked).0

pub returns-clause-leaves : goal.returns-clause-leaves
returns-clause-leaves g c =
    let known = knows g.P.Allows.may c.args.known.now in let k = c.args.words.now.layout in let leg = c.args.placed.now.leg in
    let v = c.args.seat.now.view in let a = c.args in let law = c.every_call_goes_on_by_its_phase.ensures known in
    (map-walked known law k v a.caller a.map.dom a.map.gref a.map.flags leg c.requires.knows c.walk_leg_at.result c.walk_leg_at.new.seat.view
    (opened known law k v a.caller a.map.dom a.map.gref a.map.flags leg c.requires.knows c.requires.unanswered c.requires.leg)
    c.walk_leg_at.ensures.walked).1
