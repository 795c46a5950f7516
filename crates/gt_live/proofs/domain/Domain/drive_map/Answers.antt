use Rattle.std.proofs.Common.{◌≡◌, sym, subst, None, refl}
use Rattle.gt_types.specs.declared.DomId.{DomId}
use Rattle.gt_model.specs.Path.{map_leg, path}
use Rattle.gt_model.specs.Rules.{CallerKnowledge, map_begun}
use Rattle.gt_model.specs.declared.request.OpenRequest.TheVariants as asks
use Rattle.gt_live.specs.Driving.{Knows, Leaves}
use Rattle.gt_live.specs.Domains.{knowledge}
use Rattle.gt_live.specs.Maps.{pin_effect, pin_verdict}
use Rattle.gt_live.specs.Walks.{Called}
use Rattle.gt_live.proofs.Knowing.{knows-own}
use Rattle.gt_live.proofs.domain.Domain.drive_map.Goals as goal

pub drive_map-requires-clause-unanswered : goal.drive_map-requires-clause-unanswered
drive_map-requires-clause-unanswered g c =
    let m = c.args.monitor.now in let d = c.args.self.now in let may = g.P.Allows.may m.rights in
    let same = c.known_with-known.ensures.known d c.deref.ensures.value refl refl in
    subst (λ (k : CallerKnowledge). map_begun k c.dom-caller.result c.args.map.dom c.args.map.flags ≡ None) (sym same)
    (subst (λ (x : DomId). map_begun (knowledge m.config may d) x c.args.map.dom c.args.map.flags ≡ None) (sym c.dom-caller.ensures) c.requires.unanswered)

pub drive_map-requires-clause-knows : goal.drive_map-requires-clause-knows
drive_map-requires-clause-knows g c =
    let m = c.args.monitor.now in let d = c.args.self.now in let may = g.P.Allows.may m.rights in
    let same = c.known_with-known.ensures.known d c.deref.ensures.value refl refl in
    let here = knows-own m.words m.config may d m.limits m.same_run c.requires.mine c.known_with-known.ensures.kept in
    subst (λ (k : CallerKnowledge). Knows k m.words.layout c.dom-caller.result d.seat.view) (sym same)
    (subst (λ (x : DomId). Knows (knowledge m.config may d) m.words.layout x d.seat.view) (sym c.dom-caller.ensures) here)

pub returns-clause-called : goal.returns-clause-called
returns-clause-called g c =
    let m = c.args.monitor.now in let d = c.args.self.now in let may = g.P.Allows.may m.rights in let request = asks.Map c.args.map.dom c.args.map.gref c.args.map.flags in
    let same = c.known_with-known.ensures.known d c.deref.ensures.value refl refl in
    let end = c.drive_map.new.seat.view in
    subst (λ (x : DomId). Called m.words.layout (path (knowledge m.config may d) x request) (pin_verdict c.drive_map.result) d.seat.view end) c.dom-caller.ensures
    (subst (λ (k : CallerKnowledge). Called m.words.layout (path k c.dom-caller.result request) (pin_verdict c.drive_map.result) d.seat.view end) same c.drive_map.ensures.called)

pub returns-clause-leaves : goal.returns-clause-leaves
returns-clause-leaves g c =
    let m = c.args.monitor.now in let d = c.args.self.now in let may = g.P.Allows.may m.rights in let request = asks.Map c.args.map.dom c.args.map.gref c.args.map.flags in
    let same = c.known_with-known.ensures.known d c.deref.ensures.value refl refl in
    let end = c.drive_map.new.seat.view in
    subst (λ (x : DomId). Leaves (knowledge m.config may d) m.words.layout x request d.seat.view end (pin_effect c.drive_map.result)) c.dom-caller.ensures
    (subst (λ (k : CallerKnowledge). Leaves k m.words.layout c.dom-caller.result request d.seat.view end (pin_effect c.drive_map.result)) same c.drive_map.ensures.leaves)

pub drive_map-requires-clause-leg : goal.drive_map-requires-clause-leg
drive_map-requires-clause-leg g c =
    let m = c.args.monitor.now in let d = c.args.self.now in let may = g.P.Allows.may m.rights in let a = c.args.map in
    let same = c.known_with-known.ensures.known d c.deref.ensures.value refl refl in
    subst (λ (k : CallerKnowledge). c.args.placed.now.leg ≡ map_leg k c.dom-caller.result a.dom a.gref a.flags) (sym same)
    (subst (λ (x : DomId). c.args.placed.now.leg ≡ map_leg (knowledge m.config may d) x a.dom a.gref a.flags) (sym c.dom-caller.ensures) c.requires.leg)
