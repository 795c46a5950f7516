-- A map whose leg is walked on the words: what each step makes of it.
use Rattle.std.proofs.Common.{◌≡◌, ℕ, List, [], ◌∷◌, None, refl, sym, ap, subst}
use Rattle.std.specs.Prelude.{Result, Ok, Err}
use Rattle.gt_types.specs.declared.DomId.{DomId}
use Rattle.gt_types.specs.declared.GrantRef.{GrantRef}
use Rattle.gt_types.specs.declared.denial.Denial.{Denial}
use Rattle.gt_word_history.specs.Rule.{Layout}
use Rattle.gt_word_history.specs.declared.view.View.{View}
use Rattle.gt_calls.specs.Legs.{leg_after, leg_step}
use Rattle.gt_calls.specs.Machine.{after_leg}
use Rattle.gt_model.specs.Path.{map_leg, path}
use Rattle.gt_model.specs.Rules.{CallerKnowledge, begun}
use Rattle.gt_model.specs.declared.action.Observation.{Observation}
use Rattle.gt_model.specs.declared.action.CallResult.TheVariants.{Mapped, Refused}
use Rattle.gt_calls.specs.declared.call.Phase.TheVariants.{Walking}
use Rattle.gt_calls.specs.declared.copying.PinPurpose.TheVariants.{Mapping}
use Rattle.gt_model.specs.declared.held.HeldPin.{HeldPin}
use Rattle.gt_model.specs.declared.leg.Leg.{Leg}
use Rattle.gt_calls.specs.declared.leg.LegNext.{LegNext}
use Rattle.gt_calls.specs.declared.leg.LegNext.TheVariants as leg_outcomes
use Rattle.gt_calls.specs.declared.leg.LegPhase.{LegPhase}
use Rattle.gt_calls.specs.declared.leg.LegPhase.TheVariants.{Header}
use Rattle.gt_model.specs.declared.request.OpenRequest.{OpenRequest}
use Rattle.gt_model.specs.declared.request.OpenRequest.TheVariants as asks
use Rattle.gt_live.specs.declared.driving.Effect.{Effect}
use Rattle.gt_live.specs.declared.driving.Effect.TheVariants.{Nothing, Pinned, Unpinned, Changed, Stored}
use Rattle.gt_live.specs.Driving.{Knows, Leaves}
use Rattle.gt_live.specs.Effects.{Answers, effect_of}
use Rattle.gt_live.specs.Legs.{CanWalkLeg, ComesBy, LegStep, WalksLeg, next_by}
use Rattle.gt_live.specs.Maps.{pin_effect, pin_verdict}
use Rattle.gt_live.specs.Walks.{Called, Made}
use Rattle.gt_live.proofs.Advancing.{makes-next}
use Rattle.gt_live.proofs.Stepping.{IsIn, PhaseLaw, call_in, further, over, starts}

refused-left : (c : CallerKnowledge) (k : Layout) (caller : DomId) (request : OpenRequest) (v w : View) (effect : Effect)
    (denial : Denial) → Answers effect (Refused denial) → Leaves c k caller request v w effect
    → Leaves c k caller request v w Nothing
refused-left c k caller request v w Nothing denial a left = left
refused-left c k caller request v w (Pinned p) denial a left = absurd a
refused-left c k caller request v w (Unpinned h) denial a left = absurd a
refused-left c k caller request v w (Changed q change) denial a left = absurd a
refused-left c k caller request v w Stored denial a left = absurd a

pinned-left : (c : CallerKnowledge) (k : Layout) (caller : DomId) (request : OpenRequest) (v w : View) (effect : Effect)
    (p : HeldPin) → Answers effect (Mapped p) → Leaves c k caller request v w effect
    → Leaves c k caller request v w (Pinned p)
pinned-left c k caller request v w (Pinned q) p a left =
    subst (λ (x : HeldPin). Leaves c k caller request v w (Pinned x)) (sym a) left
pinned-left c k caller request v w Nothing p a left = absurd a
pinned-left c k caller request v w (Unpinned h) p a left = absurd a
pinned-left c k caller request v w (Changed q change) p a left = absurd a
pinned-left c k caller request v w Stored p a left = absurd a

module _ (c : CallerKnowledge) (law : PhaseLaw c) (k : Layout) (v : View) (caller dom : DomId) (gref : GrantRef)
    (flags : ℕ) (l : Leg) (knows : Knows c k caller v) where
  -- the map is under way, and its leg is here
  abbrev pub Stands : LegPhase → View → Type 0
  Stands at w = IsIn c law k v caller (asks.Map dom gref flags) (Walking Mapping l at) (leg_step l at) w

  -- what the map came to by its leg: another phase, or its end
  abbrev pub Comes : LegNext → View → Type 0
  Comes (leg_outcomes.Going at) w = Stands at w
  Comes (leg_outcomes.Refused denial) w =
      Called k (path c caller (asks.Map dom gref flags)) (Refused denial) v w
      × Leaves c k caller (asks.Map dom gref flags) v w Nothing
  Comes (leg_outcomes.Pinned p) w =
      Called k (path c caller (asks.Map dom gref flags)) (Mapped p) v w
      × Leaves c k caller (asks.Map dom gref flags) v w (Pinned p)

  -- a step that was made leads to what its leg goes on with
  comes : (at : LegPhase) (seen : Observation) (next : LegNext) (u w : View) → Stands at u → Made k (leg_step l at) seen u w
      → leg_after l at seen ≡ next → Comes next w
  comes at seen (leg_outcomes.Going at2) u w here made is =
      further c law k v caller (asks.Map dom gref flags) (Walking Mapping l at) (leg_step l at) seen
      (Walking Mapping l at2) (leg_step l at2) u w knows tt here made
      (ap (λ (n : LegNext). after_leg c caller Mapping l n) is) refl
  comes at seen (leg_outcomes.Refused denial) u w here made is =
      let e = over c law k v caller (asks.Map dom gref flags) (Walking Mapping l at) (leg_step l at) seen (Refused denial)
      u w knows tt here made (ap (λ (n : LegNext). after_leg c caller Mapping l n) is) in
      (e.called, refused-left c k caller (asks.Map dom gref flags) v w (effect_of (leg_step l at) seen) denial e.answers.0 e.left)
  comes at seen (leg_outcomes.Pinned p) u w here made is =
      let e = over c law k v caller (asks.Map dom gref flags) (Walking Mapping l at) (leg_step l at) seen (Mapped p)
      u w knows tt here made (ap (λ (n : LegNext). after_leg c caller Mapping l n) is) in
      (e.called, pinned-left c k caller (asks.Map dom gref flags) v w (effect_of (leg_step l at) seen) p e.answers.0 e.left)

  -- what a map has come to by the steps of its leg
  comes-by : Stands Header v → (xs : List LegStep) (next : LegNext) (w : View) → ComesBy k l v xs next w → Comes next w
  comes-by here [] next w x =
      subst (λ (n : LegNext). Comes n w) (sym x.0) (subst (λ (u : View). Comes (leg_outcomes.Going Header) u) (sym x.1) here)
  comes-by here ((at, seen, u) ∷ xs) next w x =
      comes at seen next u w (comes-by here xs (leg_outcomes.Going at) u x.2) x.0 (sym x.1)

  -- a map that no rule answered at its beginning
  pub opened : begun c caller (asks.Map dom gref flags) ≡ None → l ≡ map_leg c caller dom gref flags → Stands Header v
  opened none is =
      starts c law k v caller (asks.Map dom gref flags) (Walking Mapping l Header) (leg_step l Header) none
      (ap (λ (x : Leg). Walking Mapping x Header) (sym is)) refl

  -- a map under way can make each step of its leg
  pub map-can-walk : Stands Header v → CanWalkLeg k l v
  map-can-walk here = λ at w x.
      makes-next c k Nothing v w (call_in caller (asks.Map dom gref flags) (Walking Mapping l at)) (leg_step l at) knows tt
      (comes-by here x.0 (leg_outcomes.Going at) w x.1)

  -- a map whose leg was walked to its end
  pub map-walked : (result : Result HeldPin Denial) (w : View) → Stands Header v → WalksLeg k l v (next_by result) w
      → Called k (path c caller (asks.Map dom gref flags)) (pin_verdict result) v w
      × Leaves c k caller (asks.Map dom gref flags) v w (pin_effect result)
  map-walked (Ok p) w here x = comes-by here x.0 (leg_outcomes.Pinned p) w x.1
  map-walked (Err denial) w here x = comes-by here x.0 (leg_outcomes.Refused denial) w x.1
