use Rattle.std.proofs.Common.{◌≡◌, ◌∙◌, refl, sym, ap, subst, inl}
use Rattle.gt_types.specs.declared.DomId.{DomId}
use Rattle.gt_types.specs.declared.places.Spot.{Spot}
use Rattle.gt_model.specs.declared.held.HeldPin.{HeldPin}
use Rattle.gt_model.specs.declared.request.Request.TheVariants as requests
use Rattle.gt_model.specs.Path.{path_of, end_spot}
use Rattle.gt_handles.specs.Handles.{HandleMap}
use Rattle.gt_live.specs.Domains.{AnswersWithAccess, knowledge}
use Rattle.std.specs.Prelude.{IfErr, IfOk, Result}
use Rattle.gt_types.specs.declared.denial.Denial.{Denial}
use Rattle.gt_frames.specs.Receipts.{Copying}
use Rattle.gt_model.specs.Holding.{last_first}
use Rattle.gt_live.specs.Accesses.{CopiesBetween, IsCopiedBy, IsIfOneMissing}
use Rattle.gt_live.proofs.Accessing.{refused-access}
use Rattle.gt_live.proofs.Copied.{access-dest, access-dest-range, access-may, access-source, access-source-range}
use Rattle.gt_live.proofs.Copied.{made-whole, taken-still}
use Rattle.gt_live.proofs.DomainKept.{looked}
use Rattle.gt_live.proofs.Making.{same_seat-then, still_seat}
use Rattle.gt_live.proofs.Taking.{all-back}
use Rattle.gt_live.proofs.domain.Domain.make_copy_home.Goals as goal

pub drive_copy-requires-clause-unanswered : goal.drive_copy-requires-clause-unanswered
drive_copy-requires-clause-unanswered g c = sym c.judge_copy.ensures ∙ c.in_default.is

pub copy_through-requires-clause-source : goal.copy_through-requires-clause-source
copy_through-requires-clause-source g c =
    let m = c.args.monitor.now in let d = c.args.self.now in let copy = c.args.copy.now in let pins = c.drive_copy.new.pins in
    let c0 = knowledge m.config (g.P.Allows.may m.rights) d in let f = c.drive_copy.new.self in
    let me = c.drive_copy.ensures.kept.seat.dom in
    access-source c0 m.words.layout f.seat d.seat.dom copy pins d.seat.view me c.in-Ok.ensures.stops c.end_spot-from.result
    (c.end_spot-from.ensures ∙ ap (λ (x : DomId). end_spot x copy.source pins.source) (c.dom-caller.ensures ∙ me))

pub copy_through-requires-clause-dest : goal.copy_through-requires-clause-dest
copy_through-requires-clause-dest g c =
    let m = c.args.monitor.now in let d = c.args.self.now in let copy = c.args.copy.now in let pins = c.drive_copy.new.pins in
    let c0 = knowledge m.config (g.P.Allows.may m.rights) d in let f = c.drive_copy.new.self in
    let me = c.drive_copy.ensures.kept.seat.dom in
    access-dest c0 m.words.layout f.seat d.seat.dom copy pins d.seat.view me c.in-Ok.ensures.stops c.end_spot-to.result
    (c.end_spot-to.ensures ∙ ap (λ (x : DomId). end_spot x copy.dest pins.dest) (c.dom-caller.ensures ∙ me))

pub copy_through-requires-clause-may : goal.copy_through-requires-clause-may
copy_through-requires-clause-may g c =
    let m = c.args.monitor.now in let d = c.args.self.now in let copy = c.args.copy.now in let pins = c.drive_copy.new.pins in
    let c0 = knowledge m.config (g.P.Allows.may m.rights) d in let f = c.drive_copy.new.self in
    access-may c0 m.words.layout f.seat d.seat.dom copy pins d.seat.view c.drive_copy.ensures.kept.seat.dom
    c.in-Ok.ensures.stops (sym c.judge_copy.ensures ∙ c.in_default.is)

pub copy_through-requires-clause-source_range : goal.copy_through-requires-clause-source_range
copy_through-requires-clause-source_range g c =
    let m = c.args.monitor.now in let d = c.args.self.now in let copy = c.args.copy.now in let pins = c.drive_copy.new.pins in
    let c0 = knowledge m.config (g.P.Allows.may m.rights) d in let f = c.drive_copy.new.self in
    let me = c.drive_copy.ensures.kept.seat.dom in
    access-source-range c0 m.words.layout f.seat d.seat.dom copy pins d.seat.view me c.in-Ok.ensures.stops
    c.end_spot-from.result
    (c.end_spot-from.ensures ∙ ap (λ (x : DomId). end_spot x copy.source pins.source) (c.dom-caller.ensures ∙ me))

pub copy_through-requires-clause-dest_range : goal.copy_through-requires-clause-dest_range
copy_through-requires-clause-dest_range g c =
    let m = c.args.monitor.now in let d = c.args.self.now in let copy = c.args.copy.now in let pins = c.drive_copy.new.pins in
    let c0 = knowledge m.config (g.P.Allows.may m.rights) d in let f = c.drive_copy.new.self in
    let me = c.drive_copy.ensures.kept.seat.dom in
    access-dest-range c0 m.words.layout f.seat d.seat.dom copy pins d.seat.view me c.in-Ok.ensures.stops
    c.end_spot-to.result
    (c.end_spot-to.ensures ∙ ap (λ (x : DomId). end_spot x copy.dest pins.dest) (c.dom-caller.ensures ∙ me))

pub give_back-requires : goal.give_back-requires
give_back-requires g c =
    let m = c.args.monitor.now in let d = c.args.self.now in let f = c.drive_copy.new.self in
    let t = c.copy_through in let pins = c.drive_copy.new.pins in record {
      seat = still_seat m.words f.seat t.new.seat (still_seat m.words d.seat f.seat c.requires.mine.seat c.drive_copy.ensures.kept.seat) t.ensures.seat;
      taken = (d.seat.view, taken-still m.words.layout (last_first pins) d.seat.view f.seat.view t.new.seat.view c.in-Ok.ensures.stops.taken t.ensures.same);
      of_run = c.in-Ok.ensures.stops.of_run;
    }

pub give_back-requires-in-Err-copy_through : goal.give_back-requires-in-Err-copy_through
give_back-requires-in-Err-copy_through g c =
    let m = c.args.monitor.now in let d = c.args.self.now in let f = c.drive_copy.new.self in
    let t = c.copy_through in let pins = c.drive_copy.new.pins in record {
      seat = still_seat m.words f.seat t.new.seat (still_seat m.words d.seat f.seat c.requires.mine.seat c.drive_copy.ensures.kept.seat) t.ensures.seat;
      taken = (d.seat.view, taken-still m.words.layout (last_first pins) d.seat.view f.seat.view t.new.seat.view c.in-Ok.ensures.stops.taken t.ensures.same);
      of_run = c.in-Ok.ensures.stops.of_run;
    }

pub returns-in-Some-clause-answered : goal.returns-in-Some-clause-answered
returns-in-Some-clause-answered g c =
    let m = c.args.monitor.now in let d = c.args.self.now in
    refused-access m.words (knowledge m.config (g.P.Allows.may m.rights) d) d.seat.dom
    (requests.Copy c.args.copy.now) (IsCopiedBy (knowledge m.config (g.P.Allows.may m.rights) d) m.words.layout d c.args.copy.now)
    c.in-Some.verdict c.refusal_of.result d.seat.view tt
    (sym c.judge_copy.ensures ∙ c.in-Some.is) c.refusal_of.ensures

pub returns-in-Err-clause-mine : goal.returns-in-Err-clause-mine
returns-in-Err-clause-mine g c =
    let m = c.args.monitor.now in let d = c.args.self.now in let may = g.P.Allows.may m.rights in
    let f = c.drive_copy.new.self in let kept = c.drive_copy.ensures.kept in
    looked m.words m.config may d f c.requires.mine (still_seat m.words d.seat f.seat c.requires.mine.seat kept.seat)
    kept.seat.dom (ap (λ v. v.items) kept.own) (ap (λ (z : HandleMap HeldPin). z.slots) kept.mappings)
    c.in-Err.ensures.stops.same

pub returns-in-Err-clause-answered : goal.returns-in-Err-clause-answered
returns-in-Err-clause-answered g c = inl c.in-Err.ensures.stops.called

pub returns-in-Err-clause-kept : goal.returns-in-Err-clause-kept
returns-in-Err-clause-kept g c =
    let one = c.drive_copy.ensures.kept in (
      record {
        slots = ap (λ (z : HandleMap HeldPin). z.slots) one.mappings;
        given = ap (λ (z : HandleMap HeldPin). z.given) one.mappings;
      },
      c.in-Err.ensures.stops.same.pins,
    )

pub returns-in-Ok-copy_through-clause-mine : goal.returns-in-Ok-copy_through-clause-mine
returns-in-Ok-copy_through-clause-mine g c =
    let m = c.args.monitor.now in let d = c.args.self.now in let may = g.P.Allows.may m.rights in
    let f = c.drive_copy.new.self in let e = c.give_back.new.self in let one = c.drive_copy.ensures.kept in
    let two = c.give_back.ensures.kept in let t = c.copy_through in
    let same = all-back m.words.layout d.seat.view e.seat.view
    (c.give_back.ensures.gives.back d.seat.view (taken-still m.words.layout (last_first c.drive_copy.new.pins) d.seat.view f.seat.view t.new.seat.view c.in-Ok.ensures.stops.taken t.ensures.same)) in
    let seat = same_seat-then d.seat f.seat e.seat one.seat (same_seat-then f.seat t.new.seat e.seat t.ensures.seat two.seat) in
    looked m.words m.config may d e c.requires.mine (still_seat m.words d.seat e.seat c.requires.mine.seat seat) seat.dom
    (ap (λ v. v.items) (two.own ∙ one.own)) (ap (λ (z : HandleMap HeldPin). z.slots) (two.mappings ∙ one.mappings)) same

pub returns-in-Ok-copy_through-clause-answered : goal.returns-in-Ok-copy_through-clause-answered
returns-in-Ok-copy_through-clause-answered g c =
    let m = c.args.monitor.now in let d = c.args.self.now in let copy = c.args.copy.now in let pins = c.drive_copy.new.pins in
    let k = m.words.layout in let c0 = knowledge m.config (g.P.Allows.may m.rights) d in let f = c.drive_copy.new.self in
    let e = c.give_back.new.self in let me = c.drive_copy.ensures.kept.seat.dom in let t = c.copy_through in
    let from_is : c.end_spot-from.result ≡ end_spot d.seat.dom copy.source pins.source =
    c.end_spot-from.ensures ∙ ap (λ (x : DomId). end_spot x copy.source pins.source) (c.dom-caller.ensures ∙ me) in
    let to_is : c.end_spot-to.result ≡ end_spot d.seat.dom copy.dest pins.dest =
    c.end_spot-to.ensures ∙ ap (λ (x : DomId). end_spot x copy.dest pins.dest) (c.dom-caller.ensures ∙ me) in
    subst (λ (r : Result Copying Denial). AnswersWithAccess (g.P.Allows.may) m d (requests.Copy copy) (IsCopiedBy c0 k d copy) r e) c.in-Ok-copy_through.is (
    made-whole c0 m.words d copy pins (end_spot d.seat.dom copy.source pins.source)
    (end_spot d.seat.dom copy.dest pins.dest) copy.len f.seat.view t.new.seat.view e.seat.view
    (path_of c0 d.seat.dom (requests.Copy copy)) t.result
    c.in-Ok.ensures.stops c.give_back.ensures.gives refl
    (subst (λ (q : Spot). IfOk t.result
    (λ (r : Copying). CopiesBetween k (end_spot d.seat.dom copy.source pins.source) q copy.len d.seat.dom pins r f.seat.view t.new.seat.view))
    to_is
    (subst (λ (p : Spot). IfOk t.result
    (λ (r : Copying). CopiesBetween k p c.end_spot-to.result copy.len d.seat.dom pins r f.seat.view t.new.seat.view)) from_is
    (subst (λ (x : DomId). IfOk t.result
    (λ (r : Copying). CopiesBetween k c.end_spot-from.result c.end_spot-to.result copy.len x pins r f.seat.view t.new.seat.view)) me
    t.ensures.copied)))
    t.ensures.unmade t.ensures.refused
    (subst (λ (q : Spot). IfErr t.result (IsIfOneMissing m.words (end_spot d.seat.dom copy.source pins.source).frame q.frame)) to_is
    (subst (λ (p : Spot). IfErr t.result (IsIfOneMissing m.words p.frame c.end_spot-to.result.frame)) from_is t.ensures.cause)))

pub returns-in-Ok-copy_through-clause-kept : goal.returns-in-Ok-copy_through-clause-kept
returns-in-Ok-copy_through-clause-kept g c =
    let d = c.args.self.now in let e = c.give_back.new.self in let one = c.drive_copy.ensures.kept in
    let two = c.give_back.ensures.kept in let t = c.copy_through in let k = c.args.monitor.now.words.layout in
    let same = all-back k d.seat.view e.seat.view
    (c.give_back.ensures.gives.back d.seat.view (taken-still k (last_first c.drive_copy.new.pins) d.seat.view c.drive_copy.new.self.seat.view t.new.seat.view c.in-Ok.ensures.stops.taken t.ensures.same)) in (
      record {
        slots = ap (λ (z : HandleMap HeldPin). z.slots) (two.mappings ∙ one.mappings);
        given = ap (λ (z : HandleMap HeldPin). z.given) (two.mappings ∙ one.mappings);
      },
      same.pins,
    )

pub returns-in-Err-copy_through-clause-mine : goal.returns-in-Err-copy_through-clause-mine
returns-in-Err-copy_through-clause-mine g c =
    let m = c.args.monitor.now in let d = c.args.self.now in let may = g.P.Allows.may m.rights in
    let f = c.drive_copy.new.self in let e = c.give_back-in-Err-copy_through.new.self in let one = c.drive_copy.ensures.kept in
    let two = c.give_back-in-Err-copy_through.ensures.kept in let t = c.copy_through in
    let same = all-back m.words.layout d.seat.view e.seat.view
    (c.give_back-in-Err-copy_through.ensures.gives.back d.seat.view (taken-still m.words.layout (last_first c.drive_copy.new.pins) d.seat.view f.seat.view t.new.seat.view c.in-Ok.ensures.stops.taken t.ensures.same)) in
    let seat = same_seat-then d.seat f.seat e.seat one.seat (same_seat-then f.seat t.new.seat e.seat t.ensures.seat two.seat) in
    looked m.words m.config may d e c.requires.mine (still_seat m.words d.seat e.seat c.requires.mine.seat seat) seat.dom
    (ap (λ v. v.items) (two.own ∙ one.own)) (ap (λ (z : HandleMap HeldPin). z.slots) (two.mappings ∙ one.mappings)) same

pub returns-in-Err-copy_through-clause-answered : goal.returns-in-Err-copy_through-clause-answered
returns-in-Err-copy_through-clause-answered g c =
    let m = c.args.monitor.now in let d = c.args.self.now in let copy = c.args.copy.now in let pins = c.drive_copy.new.pins in
    let k = m.words.layout in let c0 = knowledge m.config (g.P.Allows.may m.rights) d in let f = c.drive_copy.new.self in
    let e = c.give_back-in-Err-copy_through.new.self in let me = c.drive_copy.ensures.kept.seat.dom in let t = c.copy_through in
    let from_is : c.end_spot-from.result ≡ end_spot d.seat.dom copy.source pins.source =
    c.end_spot-from.ensures ∙ ap (λ (x : DomId). end_spot x copy.source pins.source) (c.dom-caller.ensures ∙ me) in
    let to_is : c.end_spot-to.result ≡ end_spot d.seat.dom copy.dest pins.dest =
    c.end_spot-to.ensures ∙ ap (λ (x : DomId). end_spot x copy.dest pins.dest) (c.dom-caller.ensures ∙ me) in
    subst (λ (r : Result Copying Denial). AnswersWithAccess (g.P.Allows.may) m d (requests.Copy copy) (IsCopiedBy c0 k d copy) r e) c.in-Err-copy_through.is (
    made-whole c0 m.words d copy pins (end_spot d.seat.dom copy.source pins.source)
    (end_spot d.seat.dom copy.dest pins.dest) copy.len f.seat.view t.new.seat.view e.seat.view
    (path_of c0 d.seat.dom (requests.Copy copy)) t.result
    c.in-Ok.ensures.stops c.give_back-in-Err-copy_through.ensures.gives refl
    (subst (λ (q : Spot). IfOk t.result
    (λ (r : Copying). CopiesBetween k (end_spot d.seat.dom copy.source pins.source) q copy.len d.seat.dom pins r f.seat.view t.new.seat.view))
    to_is
    (subst (λ (p : Spot). IfOk t.result
    (λ (r : Copying). CopiesBetween k p c.end_spot-to.result copy.len d.seat.dom pins r f.seat.view t.new.seat.view)) from_is
    (subst (λ (x : DomId). IfOk t.result
    (λ (r : Copying). CopiesBetween k c.end_spot-from.result c.end_spot-to.result copy.len x pins r f.seat.view t.new.seat.view)) me
    t.ensures.copied)))
    t.ensures.unmade t.ensures.refused
    (subst (λ (q : Spot). IfErr t.result (IsIfOneMissing m.words (end_spot d.seat.dom copy.source pins.source).frame q.frame)) to_is
    (subst (λ (p : Spot). IfErr t.result (IsIfOneMissing m.words p.frame c.end_spot-to.result.frame)) from_is t.ensures.cause)))

pub returns-in-Err-copy_through-clause-kept : goal.returns-in-Err-copy_through-clause-kept
returns-in-Err-copy_through-clause-kept g c =
    let d = c.args.self.now in let e = c.give_back-in-Err-copy_through.new.self in let one = c.drive_copy.ensures.kept in
    let two = c.give_back-in-Err-copy_through.ensures.kept in let t = c.copy_through in let k = c.args.monitor.now.words.layout in
    let same = all-back k d.seat.view e.seat.view
    (c.give_back-in-Err-copy_through.ensures.gives.back d.seat.view (taken-still k (last_first c.drive_copy.new.pins) d.seat.view c.drive_copy.new.self.seat.view t.new.seat.view c.in-Ok.ensures.stops.taken t.ensures.same)) in (
      record {
        slots = ap (λ (z : HandleMap HeldPin). z.slots) (two.mappings ∙ one.mappings);
        given = ap (λ (z : HandleMap HeldPin). z.given) (two.mappings ∙ one.mappings);
      },
      same.pins,
    )
