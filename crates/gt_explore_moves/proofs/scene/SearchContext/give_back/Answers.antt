use Rattle.std.proofs.Common.{◌≡◌, List, refl, sym, ap, ◌∙◌, subst, get_or}
use Rattle.std.specs.Prelude.{slice_get}
use Rattle.std.proofs.lemmas.Option.{get_or_from_slice_get, none-some, slice_get_past}
use Rattle.std.specs.Vec.{with_item}
use Rattle.gt_types.specs.declared.config.Config.{Config}
use Rattle.gt_types.specs.declared.config.DomainConfig.{DomainConfig}
use Rattle.gt_explore_moves.specs.Calls.{KnowsTable, ShowsCalls}
use Rattle.gt_explore_moves.specs.Ends.{tasks_at}
use Rattle.gt_explore_moves.specs.Starting.{GivesAsRun, giving_actor}
use Rattle.gt_explore_moves.specs.declared.actor.Actor.{Actor}
use Rattle.gt_explore_state.specs.declared.table.SparseTable.{SparseTable}
use Rattle.gt_explore_moves.proofs.LineBegins.{giving-opens, tasks-short}
use Rattle.gt_explore_moves.proofs.scene.SearchContext.give_back.Goals as goal

pub returns-in_default : goal.returns-in_default
returns-in_default c = λ s h k a domain handle t answer there here roster dom show table rest held right. let at = c.args.turn.place in
    let from : c.deref.result.now ≡ c.args.self.now.roster.domains.items = c.deref.ensures.value ∙ ap (λ (r : Config). r.domains.items) c.config.ensures in
    absurd (none-some domain (sym (slice_get_past c.deref.result.now at c.in_default.ensures.lookup.3) ∙ ap (λ (l : List DomainConfig). slice_get l at) from ∙ roster))

pub returns-in_default-get_mut : goal.returns-in_default-get_mut
returns-in_default-get_mut c = λ s h k a domain handle t answer there here roster dom show table rest held right.
    absurd (none-some a (sym (slice_get_past c.args.world.now.actors.items c.args.turn.place c.in_default-get_mut.ensures.item.3) ∙ there))

pub returns-in_default-get : goal.returns-in_default-get
returns-in_default-get c = λ s h k a domain handle t answer there here roster dom show table rest held right. let at = c.args.turn.place in
    absurd (none-some t (sym (slice_get_past c.deref-2.result.now at c.in_default-get.ensures.lookup.3) ∙ ap (λ (l : List SparseTable). slice_get l at) c.deref-2.ensures.value ∙ here))

pub returns-in-None : goal.returns-in-None
returns-in-None c = λ s h k a domain handle t answer there here roster dom show table rest held right.
    let scene = c.args.self.now in let at = c.args.turn.place in let x = c.in-Some-get_mut.actor.now in let w = c.args.world.now in
    let same : x ≡ a = c.in-Some-get_mut.ensures.value ∙ get_or_from_slice_get w.actors.items at a x there in
    let y = c.in-Some-get.table.now in let f = c.in-Some-get.ensures.lookup in
    let alike : y ≡ t = f.1 ∙ ap (λ (l : List SparseTable). get_or l at y) c.deref-2.ensures.value ∙ get_or_from_slice_get w.ground.tables.items at t y here in
    let d = c.in-Some.domain.now in let e = c.in-Some.ensures.lookup in
    let this : d ≡ domain = e.1 ∙ ap (λ (l : List DomainConfig). get_or l at d) (c.deref.ensures.value ∙ ap (λ (r : Config). r.domains.items) c.config.ensures)
    ∙ get_or_from_slice_get scene.roster.domains.items at domain d roster in
    let gives = c.in_ok-releasing.ensures s h (tasks_at scene at) k handle (subst (ShowsCalls s h (tasks_at scene at) k) (sym same) show) (tasks-short scene at)
    (subst (KnowsTable s h k.dom scene) (sym alike) table) (ap (λ (z : DomainConfig). z.id) this ∙ dom) rest held in
    absurd (subst (GivesAsRun s h k.dom handle c.args.turn.choice) c.in-None.is gives)

pub returns-in-Some-2 : goal.returns-in-Some-2
returns-in-Some-2 c = λ s h k a domain handle t answer there here roster dom show table rest held right.
    let scene = c.args.self.now in let at = c.args.turn.place in let x = c.in-Some-get_mut.actor.now in let w = c.args.world.now in
    let same : x ≡ a = c.in-Some-get_mut.ensures.value ∙ get_or_from_slice_get w.actors.items at a x there in
    let y = c.in-Some-get.table.now in let f = c.in-Some-get.ensures.lookup in
    let alike : y ≡ t = f.1 ∙ ap (λ (l : List SparseTable). get_or l at y) c.deref-2.ensures.value ∙ get_or_from_slice_get w.ground.tables.items at t y here in
    let d = c.in-Some.domain.now in let e = c.in-Some.ensures.lookup in
    let this : d ≡ domain = e.1 ∙ ap (λ (l : List DomainConfig). get_or l at d) (c.deref.ensures.value ∙ ap (λ (r : Config). r.domains.items) c.config.ensures)
    ∙ get_or_from_slice_get scene.roster.domains.items at domain d roster in
    let gives = c.in_ok-releasing.ensures s h (tasks_at scene at) k handle (subst (ShowsCalls s h (tasks_at scene at) k) (sym same) show) (tasks-short scene at)
    (subst (KnowsTable s h k.dom scene) (sym alike) table) (ap (λ (z : DomainConfig). z.id) this ∙ dom) rest held in
    giving-opens s h scene at k a handle answer c.args.turn.choice c.in-Some-2.call c.in-Some-2.step w
    (record { actors = with_item w.actors at c.give.new.self; ground = w.ground; told = w.told }) c.give.new.self show rest held right
    (subst (GivesAsRun s h k.dom handle c.args.turn.choice) c.in-Some-2.is gives)
    (c.give.ensures ∙ ap (λ (z : Actor). giving_actor z c.in-Some-2.call c.in-Some-2.step) same) refl refl refl
