use Rattle.std.proofs.Common.{◌≡◌, ◌∙◌, ap, sym, subst, None, refl}
use Rattle.gt_types.specs.declared.DomId.{DomId}
use Rattle.gt_model.specs.Path.{idle_word, path}
use Rattle.gt_model.specs.Rules.{CallerKnowledge, begun}
use Rattle.gt_live.specs.Driving.{Knows}
use Rattle.gt_live.specs.Domains.{knowledge, verdict_of}
use Rattle.gt_live.specs.Owning.{asks_change}
use Rattle.gt_live.specs.Walks.{Called}
use Rattle.gt_live.proofs.Knowing.{knows-own}
use Rattle.gt_live.proofs.domain.Domain.drive_change.Goals as goal

pub drive_change-requires-clause-unanswered : goal.drive_change-requires-clause-unanswered
drive_change-requires-clause-unanswered g c =
    let m = c.args.monitor.now in let d = c.args.self.now in let may = g.P.Allows.may m.rights in
    let request = asks_change c.args.gref c.args.change in
    let same = c.known_with-known.ensures.known d c.deref.ensures.value refl refl in
    subst (λ (k : CallerKnowledge). begun k c.dom-caller.result request ≡ None) (sym same)
    (subst (λ (x : DomId). begun (knowledge m.config may d) x request ≡ None) (sym c.dom-caller.ensures) c.requires.unanswered)

pub drive_change-requires-clause-knows : goal.drive_change-requires-clause-knows
drive_change-requires-clause-knows g c =
    let m = c.args.monitor.now in let d = c.args.self.now in let may = g.P.Allows.may m.rights in
    let same = c.known_with-known.ensures.known d c.deref.ensures.value refl refl in
    let here = knows-own m.words m.config may d m.limits m.same_run c.requires.mine c.known_with-known.ensures.kept in
    subst (λ (k : CallerKnowledge). Knows k m.words.layout c.dom-caller.result d.seat.view) (sym same)
    (subst (λ (x : DomId). Knows (knowledge m.config may d) m.words.layout x d.seat.view) (sym c.dom-caller.ensures) here)

pub returns-clause-called : goal.returns-clause-called
returns-clause-called g c =
    let m = c.args.monitor.now in let d = c.args.self.now in let may = g.P.Allows.may m.rights in
    let request = asks_change c.args.gref c.args.change in
    let same = c.known_with-known.ensures.known d c.deref.ensures.value refl refl in
    let end = c.drive_change.new.seat.view in let answer = verdict_of c.drive_change.result in
    subst (λ (x : DomId). Called m.words.layout (path (knowledge m.config may d) x request) answer d.seat.view end) c.dom-caller.ensures
    (subst (λ (k : CallerKnowledge). Called m.words.layout (path k c.dom-caller.result request) answer d.seat.view end) same c.drive_change.ensures.called)

pub drive_change-requires-clause-looked : goal.drive_change-requires-clause-looked
drive_change-requires-clause-looked g c =
    let d = c.args.self.now in let same = c.known_with-known.ensures.known d c.deref.ensures.value refl refl in
    c.requires.looked ∙ ap (λ (k : CallerKnowledge). idle_word k c.args.gref) (sym same)
