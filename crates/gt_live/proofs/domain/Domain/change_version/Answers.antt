use Rattle.std.proofs.Common.{◌≡◌, ◌∙◌, ap, sym, subst, refl, Some}
use Rattle.gt_types.specs.declared.DomId.{DomId}
use Rattle.gt_model.specs.Path.{path}
use Rattle.gt_model.specs.Rules.{CallerKnowledge, begun}
use Rattle.gt_model.specs.declared.request.OpenRequest.TheVariants as asks
use Rattle.gt_model.specs.declared.request.Request.TheVariants as requests
use Rattle.std.specs.Prelude.{Result}
use Rattle.gt_types.specs.declared.denial.Denial.{Denial}
use Rattle.gt_model.specs.declared.action.CallResult.TheVariants.{Granted}
use Rattle.gt_live.specs.Domains.{knowledge, verdict_of}
use Rattle.gt_live.proofs.AtOnce.{once-done}
use Rattle.gt_live.specs.Driving.{Knows}
use Rattle.gt_live.specs.Walks.{Called}
use Rattle.gt_live.proofs.Accessing.{none-left}
use Rattle.gt_live.proofs.Knowing.{knows-own}
use Rattle.gt_live.proofs.Making.{same_seat-self}
use Rattle.gt_live.proofs.Recorded.{still-mine}
use Rattle.gt_live.proofs.domain.Domain.change_version.Goals as goal

pub returns-in-Some : goal.returns-in-Some
returns-in-Some g c =
    let m = c.args.monitor.now in let d = c.args.self.now in let may = g.P.Allows.may m.rights in
    let same = c.known_with-known.ensures.known d c.deref.ensures.value refl refl in let n = c.known_with-known.result in
    let k = knowledge m.config may d in let verdict = c.in-Some.verdict in
    let answered : begun k d.seat.dom (asks.SetVersion c.args.version) ≡ Some verdict =
    sym (c.judge_version.ensures ∙ ap (λ (x : CallerKnowledge). begun x d.seat.dom (asks.SetVersion c.args.version)) same) ∙ c.in-Some.is in
    record {
      stays = (c.requires.mine, same_seat-self d.seat);
      answers = (
        subst (λ (r : Result (Unit {0}) Denial). Called m.words.layout (path k d.seat.dom (asks.SetVersion c.args.version)) (verdict_of r) d.seat.view d.seat.view)
            (sym c.done.ensures)
            (once-done m.words.layout k d.seat.dom (requests.SetVersion c.args.version) verdict d.seat.view tt tt answered),
        (record { slots = refl; given = refl }, λ t r. refl),
        refl,
      );
    }

pub drive_version-requires-clause-unanswered : goal.drive_version-requires-clause-unanswered
drive_version-requires-clause-unanswered g c =
    let m = c.args.monitor.now in let d = c.args.self.now in let may = g.P.Allows.may m.rights in
    let same = c.known_with-known.ensures.known d c.deref.ensures.value refl refl in let n = c.known_with-known.result in
    sym c.judge_version.ensures ∙ none-left c.judge_version.result c.in_default.not-Some

pub drive_version-requires-clause-knows : goal.drive_version-requires-clause-knows
drive_version-requires-clause-knows g c =
    let m = c.args.monitor.now in let d = c.args.self.now in let may = g.P.Allows.may m.rights in
    let same = c.known_with-known.ensures.known d c.deref.ensures.value refl refl in let n = c.known_with-known.result in
    let here = knows-own m.words m.config may d m.limits m.same_run c.requires.mine c.known_with-known.ensures.kept in
    subst (λ (k : CallerKnowledge). Knows k m.words.layout c.dom-caller.result d.seat.view) (sym same)
    (subst (λ (x : DomId). Knows (knowledge m.config may d) m.words.layout x d.seat.view) (sym c.dom-caller.ensures) here)

pub returns : goal.returns
returns g c =
    let m = c.args.monitor.now in let d = c.args.self.now in let may = g.P.Allows.may m.rights in
    let same = c.known_with-known.ensures.known d c.deref.ensures.value refl refl in let n = c.known_with-known.result in
    let seat = c.drive_version.new.seat in let e = c.drive_version.ensures in
    record {
      stays = (still-mine m.words m.config may d seat c.requires.mine e.seat e.same, e.seat);
      answers = (
        subst (λ (x : DomId). Called m.words.layout (path (knowledge m.config may d) x (asks.SetVersion c.args.version)) Granted d.seat.view seat.view) c.dom-caller.ensures
            (subst (λ (k : CallerKnowledge). Called m.words.layout (path k c.dom-caller.result (asks.SetVersion c.args.version)) Granted d.seat.view seat.view) same e.called),
        (record { slots = refl; given = refl }, e.same.pins),
        refl,
      );
    }
