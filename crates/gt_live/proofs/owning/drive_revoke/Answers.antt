use Rattle.gt_calls.specs.Known.{knows}
use Rattle.gt_live.proofs.OwnChanges.{can-revoke, revokes}
use Rattle.gt_live.proofs.owning.drive_revoke.Goals as goal

pub change_once-requires-clause-can : goal.change_once-requires-clause-can
change_once-requires-clause-can g c =
    let known = knows g.P.Allows.may c.args.known.now in let law = c.every_call_goes_on_by_its_phase.ensures known in
    let k = c.args.words.now.layout in let v = c.args.seat.now.view in let a = c.args in let r = c.requires in
    can-revoke known law k v a.caller a.idle.gref r.knows a.idle.word r.unanswered r.looked

pub returns-clause-called : goal.returns-clause-called
returns-clause-called g c =
    let known = knows g.P.Allows.may c.args.known.now in let law = c.every_call_goes_on_by_its_phase.ensures known in
    let k = c.args.words.now.layout in let v = c.args.seat.now.view in let a = c.args in let r = c.requires in
    (revokes known law k v a.caller a.idle.gref r.knows a.idle.word c.change_once.result c.change_once.new.seat.view r.unanswered
    r.looked c.change_once.ensures.made).0

pub returns-clause-leaves : goal.returns-clause-leaves
returns-clause-leaves g c =
    let known = knows g.P.Allows.may c.args.known.now in let law = c.every_call_goes_on_by_its_phase.ensures known in
    let k = c.args.words.now.layout in let v = c.args.seat.now.view in let a = c.args in let r = c.requires in
    (revokes known law k v a.caller a.idle.gref r.knows a.idle.word c.change_once.result c.change_once.new.seat.view r.unanswered
    r.looked c.change_once.ensures.made).1
