use Rattle.std.proofs.Common.{◌∙◌, subst, sym}
use Rattle.std.specs.Prelude.{Err}
use Rattle.gt_model.specs.declared.action.CallResult.TheVariants.{Refused}
use Rattle.gt_calls.specs.declared.call.Phase.TheVariants.{Accessing, Ending}
use Rattle.gt_model.specs.declared.held.AccessPath.{AccessPath}
use Rattle.gt_model.specs.declared.held.AccessPath.TheVariants.{Own}
use Rattle.gt_calls.specs.Machine.{at_dest}
use Rattle.gt_calls.specs.Known.{knows}
use Rattle.gt_model.specs.Holding.{held_by}
use Rattle.gt_live.specs.Copies.{CanGiveBack, IsGivenBack, after_copy, dest_leg}
use Rattle.gt_live.specs.Phases.{Runs}
use Rattle.gt_live.proofs.GivingBack.{can-give-source, only_source, source-given}
use Rattle.gt_live.proofs.Phases.{can-from, can-then, runs-from, runs-none, runs-then, runs-to}
use Rattle.gt_live.proofs.Reaching.{dest-own, dest-walked}
use Rattle.gt_live.proofs.access_paths.walk_to_dest.Goals as goal

pub reach_dest-requires-clause-can : goal.reach_dest-requires-clause-can
reach_dest-requires-clause-can g c =
    let known = knows g.P.Allows.may c.args.known.now in let k = c.args.words.now.layout in
    let caller = c.args.by.caller in let copy = c.args.copy.now in let source = c.args.pins.now.source in
    can-from known k caller (at_dest known caller copy source) (dest_leg known caller copy source) c.args.seat.now.view
    (dest-walked known k caller copy source (sym c.requires.granted ∙ c.if-not-granted.false))
    c.requires.can

pub give_back_access_path-requires-clause-can : goal.give_back_access_path-requires-clause-can
give_back_access_path-requires-clause-can g c =
    let known = knows g.P.Allows.may c.args.known.now in let k = c.args.words.now.layout in
    let caller = c.args.by.caller in let copy = c.args.copy.now in let source = c.args.pins.now.source in
    let v = c.args.seat.now.view in let u = c.reach_dest.new.seat.view in let denial = c.in-Err.denial in
    let walked = dest-walked known k caller copy source (sym c.requires.granted ∙ c.if-not-granted.false) in
    subst (λ (r : AccessPath). CanGiveBack k (held_by r) u) (sym c.reach_dest.ensures.source)
    (can-give-source k known caller denial source u
    (can-then known k caller (dest_leg known caller copy source) (Ending (only_source k source) (Refused denial)) v u
    (can-from known k caller (at_dest known caller copy source) (dest_leg known caller copy source) v walked
    c.requires.can)
    c.in-Err.ensures.goes))

pub returns-in-Err-clause-goes : goal.returns-in-Err-clause-goes
returns-in-Err-clause-goes g c =
    let known = knows g.P.Allows.may c.args.known.now in let k = c.args.words.now.layout in
    let caller = c.args.by.caller in let copy = c.args.copy.now in let source = c.args.pins.now.source in
    let v = c.args.seat.now.view in let u = c.reach_dest.new.seat.view in let denial = c.in-Err.denial in
    let w = c.give_back_access_path.new.seat.view in
    let walked = dest-walked known k caller copy source (sym c.requires.granted ∙ c.if-not-granted.false) in
    let end = after_copy copy (Err denial) in
    runs-from known k caller (dest_leg known caller copy source) (at_dest known caller copy source) end v w (sym walked)
    (runs-then known k caller (dest_leg known caller copy source) (Ending (only_source k source) (Refused denial)) end v
    u w c.in-Err.ensures.goes
    (source-given k known caller denial source u w
    (subst (λ (r : AccessPath). IsGivenBack k (held_by r) u w) c.reach_dest.ensures.source c.give_back_access_path.ensures.given)))

pub returns-then-not-granted-clause-goes : goal.returns-then-not-granted-clause-goes
returns-then-not-granted-clause-goes g c =
    let known = knows g.P.Allows.may c.args.known.now in let k = c.args.words.now.layout in
    let caller = c.args.by.caller in let copy = c.args.copy.now in let pins = c.args.pins.now in
    let v = c.args.seat.now.view in let start = at_dest known caller copy pins.source in
    subst (λ (r : AccessPath). Runs known k caller start v (Accessing copy pins.source r) v) (sym c.make_own.ensures)
    (runs-to known k caller start start (Accessing copy pins.source Own) v v
    (dest-own known k caller copy pins.source (sym c.requires.granted ∙ c.if-not-granted.true))
    (runs-none known k caller start v))

pub returns-in-Ok-clause-goes : goal.returns-in-Ok-clause-goes
returns-in-Ok-clause-goes g c =
    let known = knows g.P.Allows.may c.args.known.now in let k = c.args.words.now.layout in
    let caller = c.args.by.caller in let copy = c.args.copy.now in let source = c.args.pins.now.source in
    let v = c.args.seat.now.view in let w = c.reach_dest.new.seat.view in
    let walked = dest-walked known k caller copy source (sym c.requires.granted ∙ c.if-not-granted.false) in
    let dest = c.reach_dest.new.pins.dest in
    subst (λ (r : AccessPath). Runs known k caller (at_dest known caller copy source) v (Accessing copy r dest) w)
    (sym c.reach_dest.ensures.source)
    (runs-from known k caller (dest_leg known caller copy source) (at_dest known caller copy source)
    (Accessing copy source dest) v w (sym walked) c.in-Ok.ensures.goes)
