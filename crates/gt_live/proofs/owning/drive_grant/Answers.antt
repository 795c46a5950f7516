use Rattle.gt_calls.specs.Known.{knows}
use Rattle.gt_live.proofs.Making.{same_seat-then, still_seat}
use Rattle.gt_live.proofs.OwnChanges.{can-publish, can-store, can-store-second, publishes, stored-other}
use Rattle.gt_live.proofs.OwnChanges.{stored-second, stored-sub}
use Rattle.gt_live.proofs.owning.drive_grant.Goals as goal

pub store_one_body_word-requires-clause-can : goal.store_one_body_word-requires-clause-can
store_one_body_word-requires-clause-can g c =
    let known = knows g.P.Allows.may c.args.known.now in let law = c.every_call_goes_on_by_its_phase.ensures known in
    let k = c.args.words.now.layout in let v = c.args.seat.now.view in let a = c.args in let r = c.requires in
    can-store known law k v a.caller a.idle.gref r.knows a.entry c.first_body.result r.unanswered

pub store_one_body_word-requires-in-Sub-clause-can : goal.store_one_body_word-requires-in-Sub-clause-can
store_one_body_word-requires-in-Sub-clause-can g c =
    let known = knows g.P.Allows.may c.args.known.now in let law = c.every_call_goes_on_by_its_phase.ensures known in
    let k = c.args.words.now.layout in let v = c.args.seat.now.view in let a = c.args in let r = c.requires in
    let u = c.store_one_body_word.new.seat.view in let s = c.in-Sub in
    let body_word = stored-sub known law k v a.caller a.idle.gref r.knows a.entry s.dom s.ro s.frame s.off s.len c.first_body.result u
    r.unanswered s.is c.first_body.ensures c.store_one_body_word.ensures.made in
    can-store-second known law k v a.caller a.idle.gref r.knows a.entry c.second_body.result u body_word

pub change_once-requires-clause-can : goal.change_once-requires-clause-can
change_once-requires-clause-can g c =
    let known = knows g.P.Allows.may c.args.known.now in let law = c.every_call_goes_on_by_its_phase.ensures known in
    let k = c.args.words.now.layout in let v = c.args.seat.now.view in let a = c.args in let r = c.requires in
    let u = c.store_one_body_word.new.seat.view in let w = c.store_one_body_word-in-Sub.new.seat.view in let s = c.in-Sub in
    let body_word = stored-sub known law k v a.caller a.idle.gref r.knows a.entry s.dom s.ro s.frame s.off s.len c.first_body.result u
    r.unanswered s.is c.first_body.ensures c.store_one_body_word.ensures.made in
    let going = stored-second known law k v a.caller a.idle.gref r.knows a.entry c.second_body.result u w body_word
    c.second_body.ensures c.store_one_body_word-in-Sub.ensures.made in
    can-publish known law k v a.caller a.idle.gref r.knows a.entry a.idle.word w r.looked going

pub returns-in-Sub-clause-called : goal.returns-in-Sub-clause-called
returns-in-Sub-clause-called g c =
    let known = knows g.P.Allows.may c.args.known.now in let law = c.every_call_goes_on_by_its_phase.ensures known in
    let k = c.args.words.now.layout in let v = c.args.seat.now.view in let a = c.args in let r = c.requires in
    let u = c.store_one_body_word.new.seat.view in let w = c.store_one_body_word-in-Sub.new.seat.view in let s = c.in-Sub in
    let body_word = stored-sub known law k v a.caller a.idle.gref r.knows a.entry s.dom s.ro s.frame s.off s.len c.first_body.result u
    r.unanswered s.is c.first_body.ensures c.store_one_body_word.ensures.made in
    let going = stored-second known law k v a.caller a.idle.gref r.knows a.entry c.second_body.result u w body_word
    c.second_body.ensures c.store_one_body_word-in-Sub.ensures.made in
    (publishes known law k v a.caller a.idle.gref r.knows a.entry a.idle.word c.change_once.result w c.change_once.new.seat.view
    r.looked going c.change_once.ensures.made).0

pub returns-in-Sub-clause-leaves : goal.returns-in-Sub-clause-leaves
returns-in-Sub-clause-leaves g c =
    let known = knows g.P.Allows.may c.args.known.now in let law = c.every_call_goes_on_by_its_phase.ensures known in
    let k = c.args.words.now.layout in let v = c.args.seat.now.view in let a = c.args in let r = c.requires in
    let u = c.store_one_body_word.new.seat.view in let w = c.store_one_body_word-in-Sub.new.seat.view in let s = c.in-Sub in
    let body_word = stored-sub known law k v a.caller a.idle.gref r.knows a.entry s.dom s.ro s.frame s.off s.len c.first_body.result u
    r.unanswered s.is c.first_body.ensures c.store_one_body_word.ensures.made in
    let going = stored-second known law k v a.caller a.idle.gref r.knows a.entry c.second_body.result u w body_word
    c.second_body.ensures c.store_one_body_word-in-Sub.ensures.made in
    (publishes known law k v a.caller a.idle.gref r.knows a.entry a.idle.word c.change_once.result w c.change_once.new.seat.view
    r.looked going c.change_once.ensures.made).1

pub change_once-requires-in_default : goal.change_once-requires-in_default
change_once-requires-in_default g c =
    let known = knows g.P.Allows.may c.args.known.now in let law = c.every_call_goes_on_by_its_phase.ensures known in
    let k = c.args.words.now.layout in let v = c.args.seat.now.view in let a = c.args in let r = c.requires in
    let u = c.store_one_body_word.new.seat.view in
    let going = stored-other known law k v a.caller a.idle.gref r.knows a.entry c.first_body.result u r.unanswered
    c.in_default.not-Sub c.first_body.ensures c.store_one_body_word.ensures.made in
    record {
      seat = still_seat c.args.words.now _ _ c.requires.seat c.store_one_body_word.ensures.seat;
      can = can-publish known law k v a.caller a.idle.gref r.knows a.entry a.idle.word u r.looked going;
    }

pub returns-in_default : goal.returns-in_default
returns-in_default g c =
    let known = knows g.P.Allows.may c.args.known.now in let law = c.every_call_goes_on_by_its_phase.ensures known in
    let k = c.args.words.now.layout in let v = c.args.seat.now.view in let a = c.args in let r = c.requires in
    let u = c.store_one_body_word.new.seat.view in
    let going = stored-other known law k v a.caller a.idle.gref r.knows a.entry c.first_body.result u r.unanswered
    c.in_default.not-Sub c.first_body.ensures c.store_one_body_word.ensures.made in
    let last = c.change_once-in_default in
    let both = publishes known law k v a.caller a.idle.gref r.knows a.entry a.idle.word last.result u last.new.seat.view r.looked going
    last.ensures.made in
    record {
      seat = same_seat-then _ _ _ c.store_one_body_word.ensures.seat last.ensures.seat;
      called = both.0;
      leaves = both.1;
    }
