use Rattle.std.proofs.Common.{◌∙◌, refl, sym, ap, subst}
use Rattle.gt_types.specs.declared.DomId.{DomId}
use Rattle.gt_model.specs.declared.held.HeldPin.{HeldPin}
use Rattle.gt_model.specs.declared.request.Request.TheVariants as requests
use Rattle.gt_handles.specs.Handles.{HandleMap}
use Rattle.gt_live.specs.Domains.{knowledge}
use Rattle.gt_live.specs.declared.domain.copies.PendingCopy.{PendingCopy}
use Rattle.gt_live.specs.Copies.{pending_from, pending_to}
use Rattle.gt_live.specs.Halves.{BecomesPending}
use Rattle.gt_live.proofs.Accessing.{refused-begun}
use Rattle.gt_live.proofs.Copied.{access-dest, access-dest-range, access-may, access-source, access-source-range}
use Rattle.gt_live.proofs.DomainKept.{looked}
use Rattle.gt_live.proofs.Making.{still_seat}
use Rattle.gt_live.proofs.domain.Domain.begin_pending.Goals as goal

pub drive_copy-requires-clause-unanswered : goal.drive_copy-requires-clause-unanswered
drive_copy-requires-clause-unanswered g c = sym c.judge_copy.ensures ∙ c.in_default.is

pub returns-in-Some-clause-refused : goal.returns-in-Some-clause-refused
returns-in-Some-clause-refused g c =
    let m = c.args.monitor.now in let d = c.args.self.now in
    refused-begun m.words.layout (knowledge m.config (g.P.Allows.may m.rights) d) d.seat.dom
    (requests.Copy c.args.copy.now) c.in-Some.verdict c.refusal_of.result d.seat.view tt
    (sym c.judge_copy.ensures ∙ c.in-Some.is) c.refusal_of.ensures

pub returns-in-Some-clause-kept : goal.returns-in-Some-clause-kept
returns-in-Some-clause-kept g c = (record { slots = refl; given = refl }, λ t q. refl)

pub returns-in-Err-clause-mine : goal.returns-in-Err-clause-mine
returns-in-Err-clause-mine g c =
    let m = c.args.monitor.now in let d = c.args.self.now in let may = g.P.Allows.may m.rights in
    let f = c.drive_copy.new.self in let kept = c.drive_copy.ensures.kept in
    looked m.words m.config may d f c.requires.mine (still_seat m.words d.seat f.seat c.requires.mine.seat kept.seat)
    kept.seat.dom (ap (λ v. v.items) kept.own) (ap (λ (z : HandleMap HeldPin). z.slots) kept.mappings)
    c.in-Err.ensures.stops.same

pub returns-in-Err-clause-refused : goal.returns-in-Err-clause-refused
returns-in-Err-clause-refused g c = c.in-Err.ensures.stops.called

pub returns-in-Err-clause-kept : goal.returns-in-Err-clause-kept
returns-in-Err-clause-kept g c =
    let one = c.drive_copy.ensures.kept in (
      record {
        slots = ap (λ (z : HandleMap HeldPin). z.slots) one.mappings;
        given = ap (λ (z : HandleMap HeldPin). z.given) one.mappings;
      },
      c.in-Err.ensures.stops.same.pins,
    )

pub returns-in-Ok-clause-comes : goal.returns-in-Ok-clause-comes
returns-in-Ok-clause-comes g c =
    let m = c.args.monitor.now in let d = c.args.self.now in let may = g.P.Allows.may m.rights in
    let copy = c.args.copy.now in let pins = c.drive_copy.new.pins in let k = m.words.layout in
    let c0 = knowledge m.config may d in let f = c.drive_copy.new.self in let kept = c.drive_copy.ensures.kept in
    let me = kept.seat.dom in let a = c.in-Ok.ensures.stops in
    let h : PendingCopy = record { caller = d.seat.dom; copy = copy; pins = pins } in
    let comes : BecomesPending g.P.Allows.may m d copy h f = record {
      asked = refl;
      way = refl;
      access = a;
      source = access-source c0 k f.seat d.seat.dom copy pins d.seat.view me a (pending_from h) refl;
      dest = access-dest c0 k f.seat d.seat.dom copy pins d.seat.view me a (pending_to h) refl;
      allowed = access-may c0 k f.seat d.seat.dom copy pins d.seat.view me a
          (sym c.judge_copy.ensures ∙ c.in_default.is);
      source_range = access-source-range c0 k f.seat d.seat.dom copy pins d.seat.view me a (pending_from h) refl;
      dest_range = access-dest-range c0 k f.seat d.seat.dom copy pins d.seat.view me a (pending_to h) refl;
      kept = kept;
    } in
    subst (λ (x : DomId). BecomesPending g.P.Allows.may m d copy (record { caller = x; copy = copy; pins = pins }) f)
    (sym c.dom-pending.ensures) comes
