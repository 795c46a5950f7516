use Rattle.std.proofs.Common.{◌∙◌, sym, refl}
use Rattle.gt_calls.specs.declared.leg.LegNext.TheVariants as leg_outcomes
use Rattle.gt_calls.specs.Holding.{pins_so_far}
use Rattle.gt_calls.specs.Machine.{through_via}
use Rattle.gt_calls.specs.Known.{knows}
use Rattle.gt_live.proofs.GivingBack.{can-last, last-given}
use Rattle.gt_live.proofs.Reaching.{refused-runs, through-can, through-runs}
use Rattle.gt_live.specs.Domains.{denial_in}
use Rattle.gt_live.proofs.access_paths.go_through.Goals as goal

pub give_pin_back-requires-clause-can : goal.give_pin_back-requires-clause-can
give_pin_back-requires-clause-can g c =
    let known = knows g.P.Allows.may c.args.known.now in let k = c.args.words.now.layout in
    let v = c.args.seat.now.view in let first = c.args.first.now in let can = c.requires.can in
    let denial = denial_in c.in-Some.verdict in
    can-last k known can.0 (through_via known can.1 first c.args.to.pair c.args.to.dom c.args.to.gref) v (pins_so_far can.1)
    denial c.args.via.now can.2.0 v can.2.1 can.3
    (refused-runs known k can.0 can.1 first c.args.to.pair c.args.to.dom c.args.to.gref c.in-Some.verdict denial v
    (sym c.judge_via.ensures ∙ c.in-Some.is) refl)

pub returns-in-Some-clause-goes : goal.returns-in-Some-clause-goes
returns-in-Some-clause-goes g c = λ caller pin_purpose last.
    let known = knows g.P.Allows.may c.args.known.now in let k = c.args.words.now.layout in
    let v = c.args.seat.now.view in let first = c.args.first.now in let denial = c.refusal_of.result in
    last-given k known caller (through_via known pin_purpose first c.args.to.pair c.args.to.dom c.args.to.gref) v (pins_so_far pin_purpose) denial
    c.args.via.now last.0 v c.give_pin_back.new.seat.view last.1
    (refused-runs known k caller pin_purpose first c.args.to.pair c.args.to.dom c.args.to.gref c.in-Some.verdict denial v
    (sym c.judge_via.ensures ∙ c.in-Some.is) c.refusal_of.ensures)
    (c.give_pin_back.ensures.made 0)

pub walk_leg-requires-clause-can : goal.walk_leg-requires-clause-can
walk_leg-requires-clause-can g c =
    let known = knows g.P.Allows.may c.args.known.now in let k = c.args.words.now.layout in
    let v = c.args.seat.now.view in let first = c.args.first.now in let can = c.requires.can in
    through-can known k can.0 can.1 first c.second_leg-second.result c.args.to.pair c.args.to.dom c.args.to.gref v
    (sym c.judge_via.ensures ∙ c.in_default.is) c.second_leg-second.ensures can.3

pub give_pin_back-requires-in-Err-clause-can : goal.give_pin_back-requires-in-Err-clause-can
give_pin_back-requires-in-Err-clause-can g c =
    let known = knows g.P.Allows.may c.args.known.now in let k = c.args.words.now.layout in
    let v = c.args.seat.now.view in let first = c.args.first.now in let can = c.requires.can in
    let u = c.walk_leg.new.seat.view in
    can-last k known can.0 (through_via known can.1 first c.args.to.pair c.args.to.dom c.args.to.gref) v (pins_so_far can.1)
    c.in-Err.denial c.args.via.now can.2.0 u can.2.1 can.3
    (through-runs known k can.0 can.1 first c.second_leg-second.result c.args.to.pair c.args.to.dom c.args.to.gref
    (leg_outcomes.Refused c.in-Err.denial) v u (sym c.judge_via.ensures ∙ c.in_default.is) c.second_leg-second.ensures
    c.in-Err.ensures.walked)

pub returns-in-Ok-clause-goes : goal.returns-in-Ok-clause-goes
returns-in-Ok-clause-goes g c = λ caller pin_purpose last.
    let known = knows g.P.Allows.may c.args.known.now in let k = c.args.words.now.layout in
    let v = c.args.seat.now.view in let first = c.args.first.now in
    through-runs known k caller pin_purpose first c.second_leg-second.result c.args.to.pair c.args.to.dom c.args.to.gref
    (leg_outcomes.Pinned c.in-Ok.held) v c.walk_leg.new.seat.view (sym c.judge_via.ensures ∙ c.in_default.is)
    c.second_leg-second.ensures c.in-Ok.ensures.walked

pub returns-in-Err-clause-goes : goal.returns-in-Err-clause-goes
returns-in-Err-clause-goes g c = λ caller pin_purpose last.
    let known = knows g.P.Allows.may c.args.known.now in let k = c.args.words.now.layout in
    let v = c.args.seat.now.view in let first = c.args.first.now in let u = c.walk_leg.new.seat.view in
    last-given k known caller (through_via known pin_purpose first c.args.to.pair c.args.to.dom c.args.to.gref) v (pins_so_far pin_purpose)
    c.in-Err.denial c.args.via.now last.0 u c.give_pin_back-in-Err.new.seat.view last.1
    (through-runs known k caller pin_purpose first c.second_leg-second.result c.args.to.pair c.args.to.dom c.args.to.gref
    (leg_outcomes.Refused c.in-Err.denial) v u (sym c.judge_via.ensures ∙ c.in_default.is) c.second_leg-second.ensures
    c.in-Err.ensures.walked)
    (c.give_pin_back-in-Err.ensures.made 0)
