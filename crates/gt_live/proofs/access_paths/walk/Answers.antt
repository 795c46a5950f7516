use Rattle.std.proofs.Common.{◌∙◌, sym}
use Rattle.gt_model.specs.declared.held.AccessPath.TheVariants.{Own}
use Rattle.gt_calls.specs.Machine.{at_dest, at_source}
use Rattle.gt_calls.specs.Known.{knows}
use Rattle.gt_live.specs.Copies.{after_copy, filled, source_leg}
use Rattle.gt_live.proofs.Phases.{can-from, can-then, runs-from, runs-then}
use Rattle.gt_live.proofs.Reaching.{source-own, source-walked}
use Rattle.gt_live.proofs.access_paths.walk.Goals as goal

pub walk_to_dest-requires-clause-can : goal.walk_to_dest-requires-clause-can
walk_to_dest-requires-clause-can g c =
    let known = knows g.P.Allows.may c.args.known.now in let k = c.args.words.now.layout in
    let caller = c.args.by.caller in let copy = c.args.copy.now in
    can-from known k caller (at_source known caller copy) (at_dest known caller copy Own) c.args.seat.now.view
    (source-own known k caller copy (sym c.is_source_granted.ensures ∙ c.if-not-is_source_granted.true)) c.requires.can

pub returns-then-not-is_source_granted-clause-goes : goal.returns-then-not-is_source_granted-clause-goes
returns-then-not-is_source_granted-clause-goes g c =
    let known = knows g.P.Allows.may c.args.known.now in let k = c.args.words.now.layout in
    let caller = c.args.by.caller in let copy = c.args.copy.now in let v = c.args.seat.now.view in
    let is = source-own known k caller copy (sym c.is_source_granted.ensures ∙ c.if-not-is_source_granted.true) in
    runs-from known k caller (at_dest known caller copy Own) (at_source known caller copy)
    (after_copy copy (filled c.walk_to_dest.result c.walk_to_dest.new.pins)) v c.walk_to_dest.new.seat.view (sym is)
    c.walk_to_dest.ensures.goes

pub reach_source-requires-clause-can : goal.reach_source-requires-clause-can
reach_source-requires-clause-can g c =
    let known = knows g.P.Allows.may c.args.known.now in let k = c.args.words.now.layout in
    let caller = c.args.by.caller in let copy = c.args.copy.now in
    can-from known k caller (at_source known caller copy) (source_leg known caller copy) c.args.seat.now.view
    (source-walked known k caller copy (sym c.is_source_granted.ensures ∙ c.if-not-is_source_granted.false))
    c.requires.can

pub walk_to_dest-requires-in-Ok-clause-can : goal.walk_to_dest-requires-in-Ok-clause-can
walk_to_dest-requires-in-Ok-clause-can g c =
    let known = knows g.P.Allows.may c.args.known.now in let k = c.args.words.now.layout in
    let caller = c.args.by.caller in let copy = c.args.copy.now in let v = c.args.seat.now.view in
    let walked = source-walked known k caller copy (sym c.is_source_granted.ensures ∙ c.if-not-is_source_granted.false) in
    can-then known k caller (source_leg known caller copy) (at_dest known caller copy c.reach_source.new.access_path) v
    c.reach_source.new.seat.view
    (can-from known k caller (at_source known caller copy) (source_leg known caller copy) v walked c.requires.can)
    c.in-Ok.ensures.goes

pub returns-in-Ok-clause-goes : goal.returns-in-Ok-clause-goes
returns-in-Ok-clause-goes g c =
    let known = knows g.P.Allows.may c.args.known.now in let k = c.args.words.now.layout in
    let caller = c.args.by.caller in let copy = c.args.copy.now in let v = c.args.seat.now.view in
    let walked = source-walked known k caller copy (sym c.is_source_granted.ensures ∙ c.if-not-is_source_granted.false) in
    let w = c.walk_to_dest-in-Ok.new.seat.view in
    let end = after_copy copy (filled c.walk_to_dest-in-Ok.result c.walk_to_dest-in-Ok.new.pins) in
    runs-from known k caller (source_leg known caller copy) (at_source known caller copy) end v w (sym walked)
    (runs-then known k caller (source_leg known caller copy) (at_dest known caller copy c.reach_source.new.access_path) end v
    c.reach_source.new.seat.view w c.in-Ok.ensures.goes c.walk_to_dest-in-Ok.ensures.goes)
