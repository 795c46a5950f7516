use Rattle.std.proofs.Common.{◌≡◌, sym, subst, None, refl}
use Rattle.gt_types.specs.declared.DomId.{DomId}
use Rattle.gt_model.specs.Rules.{CallerKnowledge, copy_begun}
use Rattle.gt_live.specs.Copies.{CopyStopsWith, filled}
use Rattle.gt_live.specs.Driving.{Knows}
use Rattle.gt_live.specs.Domains.{knowledge}
use Rattle.gt_live.proofs.Knowing.{knows-own}
use Rattle.gt_live.proofs.domain.Domain.drive_copy.Goals as goal

pub drive_copy-requires-clause-unanswered : goal.drive_copy-requires-clause-unanswered
drive_copy-requires-clause-unanswered g c =
    let m = c.args.monitor.now in let d = c.args.self.now in let may = g.P.Allows.may m.rights in
    let same = c.known_with-known.ensures.known d c.deref.ensures.value refl refl in
    subst (λ (k : CallerKnowledge). copy_begun k c.dom-caller.result c.args.copy.now ≡ None) (sym same)
    (subst (λ (x : DomId). copy_begun (knowledge m.config may d) x c.args.copy.now ≡ None) (sym c.dom-caller.ensures)
    c.requires.unanswered)

pub drive_copy-requires-clause-knows : goal.drive_copy-requires-clause-knows
drive_copy-requires-clause-knows g c =
    let m = c.args.monitor.now in let d = c.args.self.now in let may = g.P.Allows.may m.rights in
    let same = c.known_with-known.ensures.known d c.deref.ensures.value refl refl in
    let here = knows-own m.words m.config may d m.limits m.same_run c.requires.mine c.known_with-known.ensures.kept in
    subst (λ (k : CallerKnowledge). Knows k m.words.layout c.dom-caller.result d.seat.view) (sym same)
    (subst (λ (x : DomId). Knows (knowledge m.config may d) m.words.layout x d.seat.view) (sym c.dom-caller.ensures) here)

pub returns-clause-stops : goal.returns-clause-stops
returns-clause-stops g c =
    let m = c.args.monitor.now in let d = c.args.self.now in let may = g.P.Allows.may m.rights in
    let same = c.known_with-known.ensures.known d c.deref.ensures.value refl refl in
    let end = c.drive_copy.new.seat.view in let copy = c.args.copy.now in
    subst (λ (x : DomId). CopyStopsWith (knowledge m.config may d) m.words.layout x copy (filled c.drive_copy.result c.drive_copy.new.pins) d.seat.view end)
    c.dom-caller.ensures
    (subst (λ (k : CallerKnowledge). CopyStopsWith k m.words.layout c.dom-caller.result copy (filled c.drive_copy.result c.drive_copy.new.pins) d.seat.view end)
    same c.drive_copy.ensures.stops)
