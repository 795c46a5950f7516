use Rattle.std.proofs.Common.{refl, sym, subst}
use Rattle.gt_types.specs.Names.{resolved}
use Rattle.gt_types.specs.declared.DomId.{DomId}
use Rattle.gt_calls.specs.Known.{knows}
use Rattle.gt_model.specs.declared.action.Observation.TheVariants.{Word}
use Rattle.gt_model.specs.declared.action.Step.TheVariants.{LookHeader}
use Rattle.gt_calls.specs.declared.call.Phase.TheVariants.{Asking}
use Rattle.gt_model.specs.declared.action.HeaderQuery.{HeaderQuery}
use Rattle.gt_model.specs.declared.action.HeaderQuery.TheVariants.{Size}
use Rattle.gt_live.specs.Driving.{CanMake}
use Rattle.gt_live.specs.Questions.{asks_question}
use Rattle.gt_live.specs.Walks.{Made}
use Rattle.gt_live.proofs.Questions.{asked-so}
use Rattle.gt_live.proofs.Stepping.{can-only}
use Rattle.gt_live.proofs.headers.drive_query.Goals as goal

pub look_at_header-requires-clause-can : goal.look_at_header-requires-clause-can
look_at_header-requires-clause-can g c =
    let known = knows g.P.Allows.may c.args.known.now in let law = c.every_call_goes_on_by_its_phase.ensures known in
    let k = c.args.words.now.layout in let v = c.args.seat.now.view in let a = c.args in let r = c.requires in
    subst (λ (d : DomId). CanMake k v (LookHeader d)) (sym c.resolve.ensures)
    (can-only known law k v a.caller (asks_question a.dom Size) (Asking (resolved a.caller a.dom) Size)
    (LookHeader (resolved a.caller a.dom)) r.knows tt r.unanswered refl refl)

pub returns-clause-called : goal.returns-clause-called
returns-clause-called g c =
    let known = knows g.P.Allows.may c.args.known.now in let law = c.every_call_goes_on_by_its_phase.ensures known in
    let k = c.args.words.now.layout in let v = c.args.seat.now.view in let a = c.args in let r = c.requires in
    let w = c.look_at_header.new.seat.view in let word = c.look_at_header.result in
    let made = subst (λ (d : DomId). Made k (LookHeader d) (Word word) v w) c.resolve.ensures c.look_at_header.ensures.made in
    λ (question : HeaderQuery). (asked-so known law k v a.caller a.dom word w r.knows r.unanswered made question).called

pub returns-clause-same : goal.returns-clause-same
returns-clause-same g c =
    let known = knows g.P.Allows.may c.args.known.now in let law = c.every_call_goes_on_by_its_phase.ensures known in
    let k = c.args.words.now.layout in let v = c.args.seat.now.view in let a = c.args in let r = c.requires in
    let w = c.look_at_header.new.seat.view in let word = c.look_at_header.result in
    let made = subst (λ (d : DomId). Made k (LookHeader d) (Word word) v w) c.resolve.ensures c.look_at_header.ensures.made in
    (asked-so known law k v a.caller a.dom word w r.knows r.unanswered made Size).left
