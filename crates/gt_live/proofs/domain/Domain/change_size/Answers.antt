use Rattle.std.proofs.Common.{◌≡◌, ◌∙◌, ap, sym, subst, refl, Some, None}
use Rattle.gt_types.specs.declared.DomId.{DomId}
use Rattle.gt_model.specs.Path.{path}
use Rattle.gt_model.specs.Rules.{CallerKnowledge, begun, label_of}
use Rattle.gt_calls.specs.Known.{knows}
use Rattle.gt_model.specs.declared.request.OpenRequest.TheVariants as asks
use Rattle.std.specs.Prelude.{Result, ℕ}
use Rattle.gt_types.specs.declared.denial.Denial.{Denial}
use Rattle.gt_model.specs.declared.action.CallValue.TheVariants.{Frames}
use Rattle.gt_model.specs.declared.action.CallResult.TheVariants.{Given}
use Rattle.gt_live.specs.Domains.{knowledge, verdict_of_frames}
use Rattle.gt_live.proofs.AtOnce.{once-framed}
use Rattle.gt_live.specs.Driving.{Knows}
use Rattle.gt_live.specs.Walks.{Called}
use Rattle.gt_live.proofs.Accessing.{none-left}
use Rattle.gt_live.proofs.Knowing.{knows-own}
use Rattle.gt_live.proofs.Making.{same_seat-self}
use Rattle.gt_live.proofs.Recorded.{still-mine}
use Rattle.gt_live.proofs.domain.Domain.change_size.Goals as goal

pub returns-in-Some : goal.returns-in-Some
returns-in-Some g c =
    let m = c.args.monitor.now in let d = c.args.self.now in let may = g.P.Allows.may m.rights in
    let same = c.known_with-known.ensures.known d c.deref.ensures.value refl refl in let n = c.known_with-known.result in
    let k = knowledge m.config may d in let verdict = c.in-Some.verdict in
    let answered : begun k d.seat.dom (asks.SetupTable c.args.frames) ≡ Some verdict =
    sym (c.judge_setup.ensures d.seat.dom (c.label-label.ensures ∙ ap (λ (z : CallerKnowledge). label_of z.domains d.seat.dom) (sym same)) ∙ ap (λ (x : CallerKnowledge). begun x d.seat.dom (asks.SetupTable c.args.frames)) same) ∙ c.in-Some.is in
    record {
      stays = (c.requires.mine, same_seat-self d.seat);
      answers = (
        subst (λ (r : Result ℕ Denial). Called m.words.layout (path k d.seat.dom (asks.SetupTable c.args.frames)) (verdict_of_frames r) d.seat.view d.seat.view)
            (sym c.frames_granted.ensures)
            (once-framed m.words.layout k d.seat.dom c.args.frames verdict d.seat.view answered),
        (record { slots = refl; given = refl }, λ t r. refl),
        refl,
      );
    }

pub drive_setup-requires-clause-unanswered : goal.drive_setup-requires-clause-unanswered
drive_setup-requires-clause-unanswered g c =
    let m = c.args.monitor.now in let d = c.args.self.now in let may = g.P.Allows.may m.rights in
    let same = c.known_with-known.ensures.known d c.deref.ensures.value refl refl in let n = c.known_with-known.result in
    subst (λ (x : DomId). begun (knows g.P.Allows.may n) x (asks.SetupTable c.args.frames) ≡ None) (sym c.dom-caller.ensures)
    (sym (c.judge_setup.ensures d.seat.dom (c.label-label.ensures ∙ ap (λ (z : CallerKnowledge). label_of z.domains d.seat.dom) (sym same)))
    ∙ none-left c.judge_setup.result c.in_default.not-Some)

pub drive_setup-requires-clause-knows : goal.drive_setup-requires-clause-knows
drive_setup-requires-clause-knows g c =
    let m = c.args.monitor.now in let d = c.args.self.now in let may = g.P.Allows.may m.rights in
    let same = c.known_with-known.ensures.known d c.deref.ensures.value refl refl in let n = c.known_with-known.result in
    let here = knows-own m.words m.config may d m.limits m.same_run c.requires.mine c.known_with-known.ensures.kept in
    subst (λ (k : CallerKnowledge). Knows k m.words.layout c.dom-caller.result d.seat.view) (sym same)
    (subst (λ (x : DomId). Knows (knowledge m.config may d) m.words.layout x d.seat.view) (sym c.dom-caller.ensures) here)

pub returns : goal.returns
returns g c =
    let m = c.args.monitor.now in let d = c.args.self.now in let may = g.P.Allows.may m.rights in
    let same = c.known_with-known.ensures.known d c.deref.ensures.value refl refl in let n = c.known_with-known.result in
    let seat = c.drive_setup.new.seat in let e = c.drive_setup.ensures in
    record {
      stays = (still-mine m.words m.config may d seat c.requires.mine e.seat e.same, e.seat);
      answers = (
        subst (λ (x : DomId). Called m.words.layout (path (knowledge m.config may d) x (asks.SetupTable c.args.frames)) (Given (Frames c.args.frames)) d.seat.view seat.view) c.dom-caller.ensures
            (subst (λ (k : CallerKnowledge). Called m.words.layout (path k c.dom-caller.result (asks.SetupTable c.args.frames)) (Given (Frames c.args.frames)) d.seat.view seat.view) same e.called),
        (record { slots = refl; given = refl }, e.same.pins),
        refl,
      );
    }
