use Rattle.std.proofs.Common.{refl, ap, Some}
use Rattle.std.specs.Prelude.{Ok, Err}
use Rattle.gt_types.specs.declared.DomId.{DomId}
use Rattle.gt_calls.specs.declared.copying.PinPurpose.TheVariants.{Dest}
use Rattle.gt_model.specs.declared.held.AccessPath.TheVariants.{Through}
use Rattle.gt_model.specs.Holding.{held_by}
use Rattle.gt_calls.specs.Machine.{through_via}
use Rattle.gt_calls.specs.Known.{knows}
use Rattle.gt_live.specs.Copies.{after_dest, dest_leg}
use Rattle.gt_live.proofs.Phases.{can-then, runs-then}
use Rattle.gt_live.proofs.Reaching.{no-via, dest-can, dest-reached, dest-refused, dest-via}
use Rattle.gt_live.proofs.access_paths.reach_granted.Goals as goal

pub walk_leg-requires-clause-can : goal.walk_leg-requires-clause-can
walk_leg-requires-clause-can g c =
    let known = knows g.P.Allows.may c.args.known.now in let k = c.args.words.now.layout in
    let caller = c.args.caller in let copy = c.args.copy.now in let source = c.args.pins.now.source in let v = c.args.seat.now.view in
    let leg = c.end_leg-leg.result in let is = c.end_leg-leg.ensures in
    dest-can known k caller copy source leg is v c.requires.can

pub returns-in-Err-clause-goes : goal.returns-in-Err-clause-goes
returns-in-Err-clause-goes g c =
    let known = knows g.P.Allows.may c.args.known.now in let k = c.args.words.now.layout in
    let caller = c.args.caller in let copy = c.args.copy.now in let source = c.args.pins.now.source in let v = c.args.seat.now.view in
    let leg = c.end_leg-leg.result in let is = c.end_leg-leg.ensures in
    dest-refused known k caller copy source leg is v c.walk_leg.new.seat.view c.in-Err.denial c.in-Err.ensures.walked

pub go_through-requires-clause-can : goal.go_through-requires-clause-can
go_through-requires-clause-can g c =
    let known = knows g.P.Allows.may c.args.known.now in let k = c.args.words.now.layout in
    let caller = c.args.caller in let copy = c.args.copy.now in let source = c.args.pins.now.source in let v = c.args.seat.now.view in
    let leg = c.end_leg-leg.result in let is = c.end_leg-leg.ensures in
    let p = c.in-Ok.held in let w = c.walk_leg.new.seat.view in let pair : DomId × DomId = (c.owner-from.result, c.in-Via.dom2) in
    let pin_purpose = (Dest copy source (Some p)) in let there = through_via known pin_purpose leg pair c.in-Via.dom2 c.in-Via.gref in
    let x = dest-via known k caller copy source leg is v w p c.in-Via.dom c.in-Via.ro c.in-Via.dom2 c.in-Via.gref c.owner-from.result
    c.in-Ok.ensures.walked c.in-Via.is (ap (λ (d : DomId). (d, c.in-Via.dom2)) c.owner-from.ensures) in
    (caller, pin_purpose, (held_by source, refl), can-then known k caller (dest_leg known caller copy source) there v w c.requires.can x)

pub returns-in-Ok-go_through-clause-goes : goal.returns-in-Ok-go_through-clause-goes
returns-in-Ok-go_through-clause-goes g c =
    let known = knows g.P.Allows.may c.args.known.now in let k = c.args.words.now.layout in
    let caller = c.args.caller in let copy = c.args.copy.now in let source = c.args.pins.now.source in let v = c.args.seat.now.view in
    let leg = c.end_leg-leg.result in let is = c.end_leg-leg.ensures in
    let p = c.in-Ok.held in let w = c.walk_leg.new.seat.view in let pair : DomId × DomId = (c.owner-from.result, c.in-Via.dom2) in
    let pin_purpose = (Dest copy source (Some p)) in let there = through_via known pin_purpose leg pair c.in-Via.dom2 c.in-Via.gref in
    let x = dest-via known k caller copy source leg is v w p c.in-Via.dom c.in-Via.ro c.in-Via.dom2 c.in-Via.gref c.owner-from.result
    c.in-Ok.ensures.walked c.in-Via.is (ap (λ (d : DomId). (d, c.in-Via.dom2)) c.owner-from.ensures) in
    runs-then known k caller (dest_leg known caller copy source) there
    (after_dest copy source (Ok (Through p c.in-Ok-go_through.held))) v w c.go_through.new.seat.view x
    (c.in-Ok-go_through.ensures.goes caller pin_purpose (held_by source, refl))

pub returns-in-Err-go_through-clause-goes : goal.returns-in-Err-go_through-clause-goes
returns-in-Err-go_through-clause-goes g c =
    let known = knows g.P.Allows.may c.args.known.now in let k = c.args.words.now.layout in
    let caller = c.args.caller in let copy = c.args.copy.now in let source = c.args.pins.now.source in let v = c.args.seat.now.view in
    let leg = c.end_leg-leg.result in let is = c.end_leg-leg.ensures in
    let p = c.in-Ok.held in let w = c.walk_leg.new.seat.view in let pair : DomId × DomId = (c.owner-from.result, c.in-Via.dom2) in
    let pin_purpose = (Dest copy source (Some p)) in let there = through_via known pin_purpose leg pair c.in-Via.dom2 c.in-Via.gref in
    let x = dest-via known k caller copy source leg is v w p c.in-Via.dom c.in-Via.ro c.in-Via.dom2 c.in-Via.gref c.owner-from.result
    c.in-Ok.ensures.walked c.in-Via.is (ap (λ (d : DomId). (d, c.in-Via.dom2)) c.owner-from.ensures) in
    runs-then known k caller (dest_leg known caller copy source) there
    (after_dest copy source (Err c.in-Err-go_through.denial)) v w c.go_through.new.seat.view x
    (c.in-Err-go_through.ensures.goes caller pin_purpose (held_by source, refl))

pub returns-in_default : goal.returns-in_default
returns-in_default g c =
    let known = knows g.P.Allows.may c.args.known.now in let k = c.args.words.now.layout in
    let caller = c.args.caller in let copy = c.args.copy.now in let source = c.args.pins.now.source in let v = c.args.seat.now.view in
    let leg = c.end_leg-leg.result in let is = c.end_leg-leg.ensures in
    record {
      seat = c.walk_leg.ensures.seat;
      source = refl;
      goes = dest-reached known k caller copy source leg is v c.walk_leg.new.seat.view c.in-Ok.held c.in-Ok.ensures.walked
          (no-via c.in-Ok.held.entry c.in_default.not-Via);
    }
