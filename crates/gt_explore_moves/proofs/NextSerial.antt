-- The handles that labels name were answered, and their serials are below that of the next one.
use Rattle.std.proofs.Common.{◌≡◌, ◌+◌, ◌<◌, ◌≤◌, inl, inr, ℕ, refl, true, false, Bool, cond, List, [], ◌∷◌, Option}
use Rattle.std.proofs.Common.{Some, None, ap, ◌∙◌, arith, subst}
use Rattle.std.specs.Prelude.{◌==◌, ◌&&◌, bytes_eq}
use Rattle.std.proofs.lemmas.Bool.{eqb-true}
use Rattle.std.proofs.lemmas.Option.{none-some, same_Some}
use Rattle.gt_types.specs.declared.DomId.{DomId}
use Rattle.gt_types.specs.declared.denial.Denial.{Denial}
use Rattle.gt_model.specs.declared.handle.Handle.{Handle}
use Rattle.gt_model.specs.declared.action.Observation.{Observation}
use Rattle.gt_model.specs.declared.action.Step.{Step}
use Rattle.gt_model.specs.declared.action.CallResult.{CallResult}
use Rattle.gt_model.specs.declared.request.OpenRequest.{OpenRequest}
use Rattle.gt_model.specs.Asking.{asked}
use Rattle.gt_core.specs.Alike.{IsGiven, IsRun}
use Rattle.gt_model.specs.History.{History, Setting, Underway, maps_answered_at, one_if_mapped, open_call}
use Rattle.gt_model.specs.Legal.{AnsweredBy, IsRight, StepsRightIn}
use Rattle.gt_model.specs.declared.trace.Answer.{Answer}
use Rattle.gt_model.specs.declared.trace.Answer.TheVariants.{Mapped}
use Rattle.gt_model.specs.declared.trace.ItemEvent.{ItemEvent}
use Rattle.gt_model.specs.declared.trace.ItemEvent.TheVariants.{Began, Stepped}
use Rattle.gt_model.specs.declared.trace.Item.{Item}
use Rattle.gt_script_runs.specs.Runs.{Named, handle_labelled}
use Rattle.gt_explore_replay.specs.Abreast.{HaveAnswered}

answered-next : (s : Setting) (h : History) (d : DomId) (r : OpenRequest) (step : Step) (giving : Bool) (v : Option CallResult) (a : Option Answer) (against : Option Denial) (handle : Handle)
    → AnsweredBy s h d r (Some step) giving v a against → a ≡ Some (Mapped handle) → handle.serial ≡ maps_answered_at h d.0
answered-next s h d r step giving v a against handle is e = grind arith

never-begun : (s : Setting) (h : History) (d : DomId) (r : OpenRequest) (giving : Bool) (v : Option CallResult) (a : Option Answer) (against : Option Denial) (handle : Handle)
    → AnsweredBy s h d r None giving v a against → a ≡ Some (Mapped handle) → ⊥
never-begun s h d r giving v a against handle is e = grind arith

-- a handle that is answered has the next serial of its domain
step-next : (s : Setting) (h : History) (i : Item) (step : Step) (seen : Observation) (handle : Handle) (c : Option Underway) → StepsRightIn s h i step seen c → i.answer ≡ Some (Mapped handle) → handle.serial ≡ maps_answered_at h i.actor.0
step-next s h i step seen handle None right e = absurd right
step-next s h i step seen handle (Some c) right e = answered-next s h i.actor c.request step _ _ i.answer _ handle right.answered e

next : (s : Setting) (h : History) (i : Item) (handle : Handle) → IsRight s h i → i.answer ≡ Some (Mapped handle) → handle.serial ≡ maps_answered_at h i.actor.0
next s h i handle = by i.happened where
  by : (x : ItemEvent) → IsRight s h (record i { happened = x }) → i.answer ≡ Some (Mapped handle) → handle.serial ≡ maps_answered_at h i.actor.0
  by (Began request) right e = absurd (never-begun s h i.actor (asked request) _ _ i.answer _ handle right.1 e)
  by (Stepped step seen) right e = step-next s h (record i { happened = Stepped step seen }) step seen handle (open_call h i.actor.0) right e

maps-grow : (i : Item) (h : History) (d : ℕ) → maps_answered_at h d ≤ maps_answered_at (i ∷ h) d
unfolding maps_answered_at
maps-grow i h d = let n : ℕ = cond (i.actor.0 == d) (one_if_mapped i.answer) 0 in let e : maps_answered_at (i ∷ h) d ≡ n + maps_answered_at h d = refl in omega arith

-- a map that is answered Ok is one more
pub maps-one : (i : Item) (h : History) (d : ℕ) (handle : Handle) → i.actor.0 ≡ d → i.answer ≡ Some (Mapped handle) → maps_answered_at (i ∷ h) d ≡ 1 + maps_answered_at h d
unfolding maps_answered_at
maps-one i h d handle own e = grind arith

given-below : (s : Setting) (h : History) (d : ℕ) (handle : Handle) → IsRun s h → IsGiven h d handle → handle.serial < maps_answered_at h d
unfolding IsRun IsGiven
given-below s [] d handle run g = absurd g
given-below s (i ∷ h) d handle run (inl g) =
    let one : maps_answered_at (i ∷ h) d ≡ 1 + maps_answered_at h d = maps-one i h d handle g.0 g.1 in
    let same : handle.serial ≡ maps_answered_at h d = next s h i handle run.0 g.1 ∙ ap (maps_answered_at h) g.0 in omega arith
given-below s (i ∷ h) d handle run (inr g) =
    let lt : handle.serial < maps_answered_at h d = given-below s h d handle run.2 g in
    let le : maps_answered_at h d ≤ maps_answered_at (i ∷ h) d = maps-grow i h d in omega arith

-- the handle that a label names is below
pub named-below : (s : Setting) (h : History) (d : ℕ) (named : List Named) (label : List ℕ) (handle : Handle) → IsRun s h → HaveAnswered h named → handle_labelled named d label ≡ Some handle → handle.serial < maps_answered_at h d
named-below s h d [] label handle run given e = absurd (none-some handle e)
named-below s h d (n ∷ more) label handle run given e = by (n.dom.0 == d) refl (bytes_eq n.label label) e (λ f. named-below s h d more label handle run given.1 f) where
  by : (x : Bool) → (n.dom.0 == d) ≡ x → (y : Bool) → cond (x && y) (Some n.handle) (handle_labelled more d label) ≡ Some handle → (handle_labelled more d label ≡ Some handle → handle.serial < maps_answered_at h d) → handle.serial < maps_answered_at h d
  by true is true f rest = subst (λ (z : Handle). z.serial < maps_answered_at h d) (same_Some n.handle handle f)
      (given-below s h d n.handle run (subst (λ (m : ℕ). IsGiven h m n.handle) (eqb-true n.dom.0 d is) given.0))
  by true is false f rest = rest f
  by false is y f rest = rest f
