use Rattle.std.proofs.Common.{◌≡◌, ◌≤◌, ◌∷◌, ℕ, List, Vec, Global, Some, length, refl, sym, ap, ◌∙◌, subst}
use Rattle.std.specs.Prelude.{slice_get}
use Rattle.std.proofs.lemmas.Option.{get_or_from_slice_get, none-some, slice_get_past}
use Rattle.std.specs.Vec.{with_item}
use Rattle.gt_types.specs.declared.config.DomainConfig.{DomainConfig}
use Rattle.gt_model.specs.declared.action.Action.{Action}
use Rattle.gt_explore_moves.specs.Continuing.{GoesOnAsRun}
use Rattle.gt_explore_moves.specs.Ticking.{mappings_after}
use Rattle.gt_explore_moves.specs.declared.actor.Actor.{Actor}
use Rattle.gt_explore_state.specs.declared.table.SparseTable.{SparseTable}
use Rattle.gt_explore_moves.proofs.SameStep.{along, below, rising, same-seen, step-of, still-knows, tick-is}
use Rattle.gt_explore_moves.proofs.MappingFound.{at-found}
use Rattle.gt_explore_moves.proofs.StepOrEnd.{call-over, get-set, goes-on}
use Rattle.gt_explore_moves.proofs.scene.SearchContext.settle_call.Goals as goal

pub returns-in_default : goal.returns-in_default
returns-in_default c = λ s h before k j a i tick leads actors made. let at = c.args.at in
    absurd (none-some a (sym (slice_get_past c.args.world.now.actors.items at c.in_default.ensures.item.3) ∙ ap (λ (l : Vec Actor Global). slice_get l.items at) actors ∙ tick.shows.there))

pub returns-in_default-get : goal.returns-in_default-get
returns-in_default-get c = λ s h before k j a i tick leads actors made. let at = c.args.at in
    let past : length c.args.world.now.ground.tables.items ≤ at = subst (λ (l : List SparseTable). length l ≤ at) c.deref.ensures.value c.in_default-get.ensures.lookup.3 in
    absurd (none-some tick.shows.domain (sym (slice_get_past s.domains at (subst (λ (n : ℕ). n ≤ at) made.tables_show.many past)) ∙ ap (λ (l : List DomainConfig). slice_get l at) (sym tick.shows.setting.domains) ∙ tick.shows.placed))

pub returns-in-Step : goal.returns-in-Step
returns-in-Step c = λ s h before k j a i tick leads actors made.
    let scene = c.args.self.now in let at = c.args.at in let o = c.args.open in let w = c.args.world.now in let x = c.in-Some.actor.now in
    let there : slice_get w.actors.items at ≡ Some a = ap (λ (l : Vec Actor Global). slice_get l.items at) actors ∙ tick.shows.there in
    let same : x ≡ a = c.in-Some.ensures.value ∙ get_or_from_slice_get w.actors.items at a x there in
    let y = c.in-Some-get.table.now in let e = c.in-Some-get.ensures.lookup in
    let table : slice_get w.ground.tables.items at ≡ Some y = ap (λ (l : List SparseTable). slice_get l at) (sym c.deref.ensures.value) ∙ at-found c.deref.result.now at y e.0 e.1 in
    let u = tick-is s h scene before at k a o i tick in
    let goes = c.in_ok-went.ensures s h k.dom u.call u.step (along s h scene before at k a o i tick) (below s h scene before at k a o i tick) (rising s h scene before at k a o i tick)
    u.right.continues (made.saw ∙ same-seen s h scene before at k a o i tick) (still-knows s h scene before at k a o i tick w.ground.tables.items y made.tables_show table) in
    goes-on s h scene before at k a o i tick scene.types.items j leads c.in_ok-went.went.0 c.in-Step.step
    (subst (λ (z : Action). GoesOnAsRun s h k.dom u.call u.step o.task c.in_ok-went.went.0 z) c.in-Step.is goes) c.args.seen w _ _ made refl refl refl
    (ap (λ (z : Actor). z.next) (c.make.ensures.rest ∙ ap (λ (z : Actor). record z { mappings = c.make.new.self.mappings }) same))
    (c.make.ensures.mappings ∙ ap (λ (z : Actor). mappings_after o.step z.mappings.items) same) refl

pub returns-in-Done : goal.returns-in-Done
returns-in-Done c = λ s h before k j a i tick leads actors made.
    let scene = c.args.self.now in let at = c.args.at in let o = c.args.open in let w = c.args.world.now in let x = c.in-Some.actor.now in let m = c.make.new.self in
    let there : slice_get w.actors.items at ≡ Some a = ap (λ (l : Vec Actor Global). slice_get l.items at) actors ∙ tick.shows.there in
    let same : x ≡ a = c.in-Some.ensures.value ∙ get_or_from_slice_get w.actors.items at a x there in
    let y = c.in-Some-get.table.now in let e = c.in-Some-get.ensures.lookup in
    let table : slice_get w.ground.tables.items at ≡ Some y = ap (λ (l : List SparseTable). slice_get l at) (sym c.deref.ensures.value) ∙ at-found c.deref.result.now at y e.0 e.1 in
    let u = tick-is s h scene before at k a o i tick in
    let goes = c.in_ok-went.ensures s h k.dom u.call u.step (along s h scene before at k a o i tick) (below s h scene before at k a o i tick) (rising s h scene before at k a o i tick)
    u.right.continues (made.saw ∙ same-seen s h scene before at k a o i tick) (still-knows s h scene before at k a o i tick w.ground.tables.items y made.tables_show table) in
    let here = get-set w.actors.items at a m there in
    call-over s h scene before at k a o i tick scene.types.items j c.args.seen w (record { actors = with_item w.actors at m; ground = w.ground; told = w.told }) c.close.new.world c.close.result c.in-Done.verdict m
    (subst (λ (z : Action). GoesOnAsRun s h k.dom u.call u.step o.task c.in_ok-went.went.0 z) c.in-Done.is goes)
    (ap (λ (z : Actor). z.next) (c.make.ensures.rest ∙ ap (λ (z : Actor). record z { mappings = c.make.new.self.mappings }) same))
    (c.make.ensures.mappings ∙ ap (λ (z : Actor). mappings_after o.step z.mappings.items) same) made refl refl refl leads
    (λ place t task found. c.close.ensures.line (i ∷ h) m place t here made.pages_show (step-of s h scene before at k a o i tick).reads task found)
    (λ none. c.close.ensures.back m here none)
