use Rattle.std.proofs.Common.{sym, ◌∙◌}
use Rattle.gt_calls.specs.Known.{knows}
use Rattle.gt_live.proofs.Making.{same_seat-self, same_seat-then, still_seat}
use Rattle.gt_live.proofs.OwnChanges.{can-turn, turn-given-up, turn-looked, turn-missed, turn-stopped, turn-taken}
use Rattle.gt_live.proofs.OwnChanges.{turns-start}
use Rattle.gt_live.proofs.owning.drive_turns.Goals as goal

pub turns-init : goal.turns-init
turns-init g c =
    let known = knows g.P.Allows.may c.args.known.now in let law = c.every_call_goes_on_by_its_phase.ensures known in
    let k = c.args.words.now.layout in let v = c.args.seat.now.view in let a = c.args in let r = c.requires in
    record {
      seat = c.requires.seat;
      same = same_seat-self c.args.seat.now;
      going = turns-start known law k v a.caller a.gref r.knows a.change r.turns r.unanswered;
    }

pub returns-then-stops-clause-called : goal.returns-then-stops-clause-called
returns-then-stops-clause-called g c =
    let known = knows g.P.Allows.may c.args.known.now in let law = c.every_call_goes_on_by_its_phase.ensures known in
    let k = c.args.words.now.layout in let v = c.args.seat.now.view in let a = c.args in let r = c.requires in
    let look = c.look_at_control-word in let word = look.result in let more = c.turns.more in
    (turn-stopped known law k v a.caller a.gref r.knows a.change more word c.entry_refusal.result c.turns.seat.view
    look.new.seat.view c.turns.invariant.going look.ensures.made
    (sym c.stops.ensures ∙ c.if-stops.true) c.entry_refusal.ensures).0

pub returns-then-stops-clause-leaves : goal.returns-then-stops-clause-leaves
returns-then-stops-clause-leaves g c =
    let known = knows g.P.Allows.may c.args.known.now in let law = c.every_call_goes_on_by_its_phase.ensures known in
    let k = c.args.words.now.layout in let v = c.args.seat.now.view in let a = c.args in let r = c.requires in
    let look = c.look_at_control-word in let word = look.result in let more = c.turns.more in
    (turn-stopped known law k v a.caller a.gref r.knows a.change more word c.entry_refusal.result c.turns.seat.view
    look.new.seat.view c.turns.invariant.going look.ensures.made
    (sym c.stops.ensures ∙ c.if-stops.true) c.entry_refusal.ensures).1

pub try_change-requires-clause-can : goal.try_change-requires-clause-can
try_change-requires-clause-can g c =
    let known = knows g.P.Allows.may c.args.known.now in let law = c.every_call_goes_on_by_its_phase.ensures known in
    let k = c.args.words.now.layout in let v = c.args.seat.now.view in let a = c.args in let r = c.requires in
    let look = c.look_at_control-word in let word = look.result in let more = c.turns.more in
    let turning = turn-looked known law k v a.caller a.gref r.knows a.change more word c.turns.seat.view look.new.seat.view
    c.turns.invariant.going look.ensures.made (sym c.stops.ensures ∙ c.if-stops.false) in
    can-turn known law k v a.caller a.gref r.knows a.change more word look.new.seat.view turning

pub returns-in-Ok-clause-called : goal.returns-in-Ok-clause-called
returns-in-Ok-clause-called g c =
    let known = knows g.P.Allows.may c.args.known.now in let law = c.every_call_goes_on_by_its_phase.ensures known in
    let k = c.args.words.now.layout in let v = c.args.seat.now.view in let a = c.args in let r = c.requires in
    let look = c.look_at_control-word in let word = look.result in let more = c.turns.more in
    let turning = turn-looked known law k v a.caller a.gref r.knows a.change more word c.turns.seat.view look.new.seat.view
    c.turns.invariant.going look.ensures.made (sym c.stops.ensures ∙ c.if-stops.false) in
    let u = look.new.seat.view in let w = c.try_change.new.seat.view in
    (turn-taken known law k v a.caller a.gref r.knows a.change more word u w turning c.in-Ok.ensures.made).0

pub returns-in-Ok-clause-leaves : goal.returns-in-Ok-clause-leaves
returns-in-Ok-clause-leaves g c =
    let known = knows g.P.Allows.may c.args.known.now in let law = c.every_call_goes_on_by_its_phase.ensures known in
    let k = c.args.words.now.layout in let v = c.args.seat.now.view in let a = c.args in let r = c.requires in
    let look = c.look_at_control-word in let word = look.result in let more = c.turns.more in
    let turning = turn-looked known law k v a.caller a.gref r.knows a.change more word c.turns.seat.view look.new.seat.view
    c.turns.invariant.going look.ensures.made (sym c.stops.ensures ∙ c.if-stops.false) in
    let u = look.new.seat.view in let w = c.try_change.new.seat.view in
    (turn-taken known law k v a.caller a.gref r.knows a.change more word u w turning c.in-Ok.ensures.made).1

pub returns-then-more-eq0-clause-called : goal.returns-then-more-eq0-clause-called
returns-then-more-eq0-clause-called g c =
    let known = knows g.P.Allows.may c.args.known.now in let law = c.every_call_goes_on_by_its_phase.ensures known in
    let k = c.args.words.now.layout in let v = c.args.seat.now.view in let a = c.args in let r = c.requires in
    let look = c.look_at_control-word in let word = look.result in let more = c.turns.more in
    let turning = turn-looked known law k v a.caller a.gref r.knows a.change more word c.turns.seat.view look.new.seat.view
    c.turns.invariant.going look.ensures.made (sym c.stops.ensures ∙ c.if-stops.false) in
    let u = look.new.seat.view in let w = c.try_change.new.seat.view in
    (turn-given-up known law k v a.caller a.gref r.knows a.change more word c.in-Err.found
    c.entry_refusal-then-more-eq0.result u w turning c.in-Err.ensures.made c.if-more-eq0.true
    c.entry_refusal-then-more-eq0.ensures).0

pub returns-then-more-eq0-clause-leaves : goal.returns-then-more-eq0-clause-leaves
returns-then-more-eq0-clause-leaves g c =
    let known = knows g.P.Allows.may c.args.known.now in let law = c.every_call_goes_on_by_its_phase.ensures known in
    let k = c.args.words.now.layout in let v = c.args.seat.now.view in let a = c.args in let r = c.requires in
    let look = c.look_at_control-word in let word = look.result in let more = c.turns.more in
    let turning = turn-looked known law k v a.caller a.gref r.knows a.change more word c.turns.seat.view look.new.seat.view
    c.turns.invariant.going look.ensures.made (sym c.stops.ensures ∙ c.if-stops.false) in
    let u = look.new.seat.view in let w = c.try_change.new.seat.view in
    (turn-given-up known law k v a.caller a.gref r.knows a.change more word c.in-Err.found
    c.entry_refusal-then-more-eq0.result u w turning c.in-Err.ensures.made c.if-more-eq0.true
    c.entry_refusal-then-more-eq0.ensures).1

pub turns-preserved : goal.turns-preserved
turns-preserved g c =
    let known = knows g.P.Allows.may c.args.known.now in let law = c.every_call_goes_on_by_its_phase.ensures known in
    let k = c.args.words.now.layout in let v = c.args.seat.now.view in let a = c.args in let r = c.requires in
    let look = c.look_at_control-word in let word = look.result in let more = c.turns.more in
    let turning = turn-looked known law k v a.caller a.gref r.knows a.change more word c.turns.seat.view look.new.seat.view
    c.turns.invariant.going look.ensures.made (sym c.stops.ensures ∙ c.if-stops.false) in
    let u = look.new.seat.view in let w = c.try_change.new.seat.view in
    let same = same_seat-then _ _ _ (same_seat-then _ _ _ c.turns.invariant.same look.ensures.seat) c.try_change.ensures.seat in
    record {
      seat = still_seat c.args.words.now _ _ c.requires.seat same;
      same = same;
      going = turn-missed known law k v a.caller a.gref r.knows a.change more word c.in-Err.found u w turning
          c.in-Err.ensures.made c.if-more-eq0.false;
    }
