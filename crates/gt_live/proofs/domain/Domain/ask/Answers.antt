use Rattle.std.proofs.Common.{◌≡◌, ◌∙◌, ap, sym, subst, refl, Some}
use Rattle.gt_types.specs.declared.DomId.{DomId}
use Rattle.gt_model.specs.Path.{path, header_value_of}
use Rattle.gt_model.specs.Rules.{CallerKnowledge, label_of, query_begun}
use Rattle.gt_model.specs.declared.action.HeaderQuery.{HeaderQuery}
use Rattle.gt_live.specs.Domains.{knowledge}
use Rattle.gt_live.specs.Driving.{Knows}
use Rattle.gt_live.specs.Questions.{asks_question}
use Rattle.gt_live.specs.Walks.{Called}
use Rattle.gt_live.proofs.Accessing.{none-left}
use Rattle.gt_live.proofs.AtOnce.{once-asked}
use Rattle.gt_live.proofs.Knowing.{knows-own}
use Rattle.gt_live.proofs.Making.{same_seat-self}
use Rattle.gt_live.proofs.Recorded.{still-mine}
use Rattle.gt_live.proofs.domain.Domain.ask.Goals as goal

pub judge_query-requires : goal.judge_query-requires
judge_query-requires g c =
    let m = c.args.monitor.now in let d = c.args.self.now in let may = g.P.Allows.may m.rights in
    let same = c.known_with-known.ensures.known d c.deref.ensures.value refl refl in let n = c.known_with-known.result in
    c.label-label.ensures ∙ (ap (λ (x : DomId). label_of m.config.domains.items x) (sym c.dom-caller.ensures)
    ∙ ap (λ (z : CallerKnowledge). label_of z.domains c.dom-caller.result) (sym same))

pub returns-in-Some : goal.returns-in-Some
returns-in-Some g c =
    let m = c.args.monitor.now in let d = c.args.self.now in let may = g.P.Allows.may m.rights in
    let same = c.known_with-known.ensures.known d c.deref.ensures.value refl refl in let n = c.known_with-known.result in
    let k = knowledge m.config may d in let verdict = c.in-Some.verdict in
    let answered : query_begun k d.seat.dom c.args.dom ≡ Some verdict =
    sym (c.judge_query.ensures ∙ (ap (λ (z : CallerKnowledge). query_begun z c.dom-caller.result c.args.dom) same
    ∙ ap (λ (x : DomId). query_begun k x c.args.dom) c.dom-caller.ensures)) ∙ c.in-Some.is in
    record {
      stays = (c.requires.mine, same_seat-self d.seat);
      called = once-asked m.words.layout k d.seat.dom c.args.dom verdict c.refusal_of.result d.seat.view answered c.refusal_of.ensures;
      kept = (record { slots = refl; given = refl }, λ t r. refl);
      silent = refl;
    }

pub drive_query-requires-clause-unanswered : goal.drive_query-requires-clause-unanswered
drive_query-requires-clause-unanswered g c = sym c.judge_query.ensures ∙ none-left c.judge_query.result c.in_default.not-Some

pub drive_query-requires-clause-knows : goal.drive_query-requires-clause-knows
drive_query-requires-clause-knows g c =
    let m = c.args.monitor.now in let d = c.args.self.now in let may = g.P.Allows.may m.rights in
    let same = c.known_with-known.ensures.known d c.deref.ensures.value refl refl in let n = c.known_with-known.result in
    let here = knows-own m.words m.config may d m.limits m.same_run c.requires.mine c.known_with-known.ensures.kept in
    subst (λ (k : CallerKnowledge). Knows k m.words.layout c.dom-caller.result d.seat.view) (sym same)
    (subst (λ (x : DomId). Knows (knowledge m.config may d) m.words.layout x d.seat.view) (sym c.dom-caller.ensures) here)

pub returns : goal.returns
returns g c =
    let m = c.args.monitor.now in let d = c.args.self.now in let may = g.P.Allows.may m.rights in
    let same = c.known_with-known.ensures.known d c.deref.ensures.value refl refl in let n = c.known_with-known.result in
    let seat = c.drive_query.new.seat in let e = c.drive_query.ensures in let word = c.drive_query.result in
    record {
      stays = (still-mine m.words m.config may d seat c.requires.mine e.seat e.same, e.seat);
      called = λ (question : HeaderQuery).
          subst (λ (x : DomId). Called m.words.layout (path (knowledge m.config may d) x (asks_question c.args.dom question)) (header_value_of question word) d.seat.view seat.view) c.dom-caller.ensures
          (subst (λ (k : CallerKnowledge). Called m.words.layout (path k c.dom-caller.result (asks_question c.args.dom question)) (header_value_of question word) d.seat.view seat.view) same (e.called question));
      kept = (record { slots = refl; given = refl }, e.same.pins);
      silent = refl;
    }
