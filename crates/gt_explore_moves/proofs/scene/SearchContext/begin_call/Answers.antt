use Rattle.std.proofs.Common.{◌≡◌, ◌+◌, ◌<◌, ◌^◌, List, refl, sym, ap, ◌∙◌, subst, get_or}
use Rattle.std.specs.Prelude.{slice_get}
use Rattle.std.proofs.lemmas.Option.{get_or_from_slice_get, none-some, slice_get_past}
use Rattle.std.proofs.lemmas.Result.{IfOk-weaker}
use Rattle.std.specs.Vec.{with_item}
use Rattle.gt_model.specs.declared.trace.Answer.{Answer}
use Rattle.gt_script_runs.specs.Printing.{answer_line}
use Rattle.gt_explore_moves.specs.Calls.{KnowsTable, ShowsCalls}
use Rattle.gt_explore_moves.specs.Ends.{tasks_at}
use Rattle.gt_explore_moves.specs.Starting.{BeginsAsRun, PrintsLine, opened_actor, passed_actor}
use Rattle.gt_explore_moves.specs.declared.actor.Actor.{Actor}
use Rattle.gt_explore_state.specs.declared.table.SparseTable.{SparseTable}
use Rattle.gt_explore_moves.proofs.LineBegins.{line-opens, line-answers, tasks-short}
use Rattle.gt_explore_moves.proofs.scene.SearchContext.begin_call.Goals as goal

pub returns-in_default : goal.returns-in_default
returns-in_default c = λ s h k ts a q t answer there here show table next says right.
    absurd (none-some a (sym (slice_get_past c.args.world.now.actors.items c.args.at c.in_default.ensures.item.3) ∙ there))

pub returns-in_default-get : goal.returns-in_default-get
returns-in_default-get c = λ s h k ts a q t answer there here show table next says right. let at = c.args.at in
    absurd (none-some t (sym (slice_get_past c.deref.result.now at c.in_default-get.ensures.lookup.3) ∙ ap (λ (l : List SparseTable). slice_get l at) c.deref.ensures.value ∙ here))

pub returns-in-Open : goal.returns-in-Open
returns-in-Open c = λ s h k ts a q t answer there here show table next says right.
    let scene = c.args.self.now in let at = c.args.at in let x = c.in-Some.actor.now in let w = c.args.world.now in
    let same : x ≡ a = c.in-Some.ensures.value ∙ get_or_from_slice_get w.actors.items at a x there in
    let y = c.in-Some-get.table.now in let e = c.in-Some-get.ensures.lookup in
    let alike : y ≡ t = e.1 ∙ ap (λ (l : List SparseTable). get_or l at y) c.deref.ensures.value ∙ get_or_from_slice_get w.ground.tables.items at t y here in
    let began = c.in_ok-call.ensures s h (tasks_at scene at) k q (subst (ShowsCalls s h (tasks_at scene at) k) (sym same) show) (tasks-short scene at)
    (subst (KnowsTable s h k.dom scene) (sym alike) table) next.dom says in
    line-opens s h scene at scene.types.items k ts a c.args.task.now c.args.call.now q answer show next says right w
    (record { actors = with_item w.actors at c.start.new.self; ground = w.ground; told = w.told }) c.start.new.self refl refl refl c.in-Open.call c.in-Open.step
    (subst (BeginsAsRun s h k.dom q) c.in-Open.is began)
    (λ lt. c.start.ensures (subst (λ (z : Actor). z.next + 1 < 2 ^ 64) (sym same) lt) ∙ ap (λ (z : Actor). opened_actor z c.in-Open.call c.in-Open.step) same)

pub returns-in-Done : goal.returns-in-Done
returns-in-Done c = λ s h k ts a q t answer there here show table next says right.
    let scene = c.args.self.now in let at = c.args.at in let x = c.in-Some.actor.now in let w = c.args.world.now in let line = c.args.task.now in
    let same : x ≡ a = c.in-Some.ensures.value ∙ get_or_from_slice_get w.actors.items at a x there in
    let y = c.in-Some-get.table.now in let e = c.in-Some-get.ensures.lookup in
    let alike : y ≡ t = e.1 ∙ ap (λ (l : List SparseTable). get_or l at y) c.deref.ensures.value ∙ get_or_from_slice_get w.ground.tables.items at t y here in
    let began = c.in_ok-call.ensures s h (tasks_at scene at) k q (subst (ShowsCalls s h (tasks_at scene at) k) (sym same) show) (tasks-short scene at)
    (subst (KnowsTable s h k.dom scene) (sym alike) table) next.dom says in
    IfOk-weaker c.line.result _ _
    (λ led prints. line-answers s h scene at scene.types.items k ts a line c.args.call.now q answer show next says right w
    (record { actors = with_item w.actors at c.pass.new.self; ground = w.ground; told = w.told }) c.pass.new.self refl refl refl c.in-Done.verdict led
    (subst (BeginsAsRun s h k.dom q) c.in-Done.is began)
    (λ lt. c.pass.ensures (subst (λ (z : Actor). z.next + 1 < 2 ^ 64) (sym same) lt) ∙ ap passed_actor same)
    (subst (λ (z : Answer). PrintsLine led (answer_line scene.types.items line.line line.dom z)) c.answer_of.ensures prints))
    c.line.ensures
