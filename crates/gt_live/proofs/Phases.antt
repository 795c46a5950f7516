-- The steps of a copy from phase to phase, and what a copy under way comes to by them.
use Rattle.std.proofs.Common.{◌≡◌, refl, sym, ap, subst, List, [], ◌∷◌, Some, None}
use Rattle.gt_types.specs.declared.DomId.{DomId}
use Rattle.gt_types.specs.declared.denial.Denial.{Denial}
use Rattle.gt_word_history.specs.Rule.{Layout}
use Rattle.gt_word_history.specs.declared.view.View.{View}
use Rattle.gt_model.specs.declared.action.Action.{Action}
use Rattle.gt_model.specs.declared.action.Action.TheVariants.{Done}
use Rattle.gt_model.specs.declared.action.Action.TheVariants as actions
use Rattle.gt_model.specs.declared.action.Observation.{Observation}
use Rattle.gt_model.specs.declared.action.Observation.TheVariants as observations
use Rattle.gt_model.specs.declared.action.Step.{Step}
use Rattle.gt_model.specs.declared.action.CallResult.TheVariants.{Refused}
use Rattle.gt_calls.specs.declared.call.Phase.{Phase}
use Rattle.gt_calls.specs.declared.call.Phase.TheVariants.{Ending, Walking}
use Rattle.gt_calls.specs.declared.copying.PinPurpose.{PinPurpose}
use Rattle.gt_model.specs.declared.leg.Leg.{Leg}
use Rattle.gt_calls.specs.declared.leg.LegNext.{LegNext}
use Rattle.gt_calls.specs.declared.leg.LegNext.TheVariants.{Going}
use Rattle.gt_calls.specs.declared.leg.LegPhase.TheVariants.{Header}
use Rattle.gt_model.specs.declared.held.CallPins.{CallPins}
use Rattle.gt_types.specs.declared.copies.CopyArgs.{CopyArgs}
use Rattle.gt_model.specs.Holding.{no_pins}
use Rattle.gt_calls.specs.Machine.{action_at, after_leg, at_source, phase_after}
use Rattle.gt_calls.specs.Legs.{leg_step}
use Rattle.gt_model.specs.Rules.{CallerKnowledge, copy_begun}
use Rattle.std.specs.Prelude.{Result, Ok, Err}
use Rattle.gt_live.specs.Copies.{CopyStopsWith, after_copy, copy_call, unmoved_copy}
use Rattle.gt_live.specs.Driving.{Knows}
use Rattle.gt_live.specs.Legs.{CanWalkLeg, ComesBy, LegStep, WalksLeg}
use Rattle.gt_live.specs.Phases.{CanRun, PhaseStep, Runs, RunsBy}
use Rattle.gt_live.specs.Underway.{IsUnderway}
use Rattle.gt_live.specs.Walks.{MakesStep}
use Rattle.gt_live.proofs.Stepping.{PhaseLaw}
use Rattle.gt_live.proofs.Stopping.{comes-there, ends-refused, goes-on, makes-copy, no-leg, starts}

module _ (c : CallerKnowledge) (k : Layout) (caller : DomId) where
  pub runs-none : (phase : Phase) (v : View) → Runs c k caller phase v phase v
  runs-none phase v = ([], (refl, refl))

  -- the same, by what the phases are
  pub runs-to : (start phase other : Phase) (v w : View) → phase ≡ other → Runs c k caller start v phase w
      → Runs c k caller start v other w
  runs-to start phase other v w is x = subst (λ (p : Phase). Runs c k caller start v p w) is x

  pub runs-from : (start other phase : Phase) (v w : View) → start ≡ other → Runs c k caller start v phase w
      → Runs c k caller other v phase w
  runs-from start other phase v w is x = subst (λ (p : Phase). Runs c k caller p v phase w) is x

  -- a step further
  pub runs-on : (start at : Phase) (seen : Observation) (v u w : View) → Runs c k caller start v at u
      → MakesStep k (Some (action_at caller at)) seen u w → Runs c k caller start v (phase_after c caller at seen) w
  runs-on start at seen v u w x made = ((at, seen, u) ∷ x.0, (made, refl, x.1))

  -- what comes after
  runs-after : (start mid : Phase) (v u : View) → Runs c k caller start v mid u → (ys : List PhaseStep)
      (phase : Phase) (w : View) → RunsBy c k caller mid u ys phase w → Runs c k caller start v phase w
  runs-after start mid v u x [] phase w y =
      subst (λ (p : Phase). Runs c k caller start v p w) (sym y.0)
      (subst (λ (z : View). Runs c k caller start v mid z) (sym y.1) x)
  runs-after start mid v u x ((at, seen, z) ∷ ys) phase w y =
      let before = runs-after start mid v u x ys at z y.2 in ((at, seen, z) ∷ before.0, (y.0, y.1, before.1))

  pub runs-then : (start mid phase : Phase) (v u w : View) → Runs c k caller start v mid u
      → Runs c k caller mid u phase w → Runs c k caller start v phase w
  runs-then start mid phase v u w x y = runs-after start mid v u x y.0 phase w y.1

  -- the steps of a leg are those of a call that walks it
  leg-by : (pin_purpose : PinPurpose) (l : Leg) (v : View) (xs : List LegStep) (next : LegNext) (w : View)
      → ComesBy k l v xs next w → Runs c k caller (Walking pin_purpose l Header) v (after_leg c caller pin_purpose l next) w
  leg-by pin_purpose l v [] next w x =
      subst (λ (n : LegNext). Runs c k caller (Walking pin_purpose l Header) v (after_leg c caller pin_purpose l n) w) (sym x.0)
      (subst (λ (z : View). Runs c k caller (Walking pin_purpose l Header) v (Walking pin_purpose l Header) z) (sym x.1)
      (runs-none (Walking pin_purpose l Header) v))
  leg-by pin_purpose l v ((at, seen, u) ∷ xs) next w x =
      subst (λ (n : LegNext). Runs c k caller (Walking pin_purpose l Header) v (after_leg c caller pin_purpose l n) w) (sym x.1)
      (runs-on (Walking pin_purpose l Header) (Walking pin_purpose l at) seen v u w (leg-by pin_purpose l v xs (Going at) u x.2) x.0)

  pub leg-runs : (pin_purpose : PinPurpose) (l : Leg) (v : View) (next : LegNext) (w : View) → WalksLeg k l v next w
      → Runs c k caller (Walking pin_purpose l Header) v (after_leg c caller pin_purpose l next) w
  leg-runs pin_purpose l v next w x = leg-by pin_purpose l v x.0 next w x.1

  -- a call that may run on may walk its leg
  pub leg-can : (pin_purpose : PinPurpose) (l : Leg) (v : View) → CanRun c k caller (Walking pin_purpose l Header) v → CanWalkLeg k l v
  leg-can pin_purpose l v can = λ at w x.
      can (Walking pin_purpose l at) w (leg_step l at) (leg-runs pin_purpose l v (Going at) w x) refl
      (λ from to len e. no-leg l at from to len (ap (λ (s : Step). actions.Step s) (sym e)))

  pub can-from : (start other : Phase) (v : View) → start ≡ other → CanRun c k caller start v
      → CanRun c k caller other v
  can-from start other v is can = subst (λ (p : Phase). CanRun c k caller p v) is can

  pub can-then : (start mid : Phase) (v u : View) → CanRun c k caller start v → Runs c k caller start v mid u
      → CanRun c k caller mid u
  can-then start mid v u can x = λ at w step y acts other. can at w step (runs-then start mid at v u w x y) acts other

  -- a copy under way, and what it comes to
  module _ (copy : CopyArgs) (law : PhaseLaw c) (v : View)
      (knows : Knows c k caller v) where
    abbrev pub StandsAt : Phase → View → Type 0
    StandsAt phase w = IsUnderway c k v w (copy_call caller copy phase) (action_at caller phase)

    step-further : (at : Phase) (seen : Observation) (u w : View) (action : Action) → action_at caller at ≡ action
        → MakesStep k (Some action) seen u w → StandsAt at u → StandsAt (phase_after c caller at seen) w
    step-further at seen u w (actions.Step s) acts made here =
        (goes-on c k v u w (copy_call caller copy at) (copy_call caller copy (phase_after c caller at seen))
        (action_at caller (phase_after c caller at seen)) s seen knows
        (subst (λ (a : Action). IsUnderway c k v u (copy_call caller copy at) a) acts here) made refl refl
        (law (copy_call caller copy at) seen)).0
    step-further at seen u w (Done verdict) acts made here = absurd made

    stands-by : (start : Phase) → StandsAt start v → (xs : List PhaseStep) (phase : Phase) (w : View)
        → RunsBy c k caller start v xs phase w → StandsAt phase w
    stands-by start here [] phase w x =
        subst (λ (p : Phase). StandsAt p w) (sym x.0) (subst (λ (z : View). StandsAt start z) (sym x.1) here)
    stands-by start here ((at, seen, u) ∷ xs) phase w x =
        subst (λ (p : Phase). StandsAt p w) (sym x.1)
        (step-further at seen u w (action_at caller at) refl x.0 (stands-by start here xs at u x.2))

    pub stands-then : (start phase : Phase) (w : View) → StandsAt start v → Runs c k caller start v phase w
        → StandsAt phase w
    stands-then start phase w here x = stands-by start here x.0 phase w x.1

    pub may-run : (start : Phase) → StandsAt start v → CanRun c k caller start v
    may-run start here = λ at w step x acts other.
        makes-copy c k v w (copy_call caller copy at) step knows
        (subst (λ (a : Action). IsUnderway c k v w (copy_call caller copy at) a) acts (stands-then start at w here x))
        other

    -- a copy that no rule answered at its beginning
    pub stands-first : copy_begun c caller copy ≡ None → StandsAt (at_source c caller copy) v
    stands-first none =
        starts c k v (unmoved_copy caller copy) (copy_call caller copy (at_source c caller copy))
        (action_at caller (at_source c caller copy)) copy knows (record { unmoved = refl; unanswered = none }) refl
        refl refl (law (unmoved_copy caller copy) observations.Nothing)

    -- where it stops
    pub stops : (result : Result CallPins Denial) (w : View) → StandsAt (after_copy copy result) w
        → CopyStopsWith c k caller copy result v w
    stops (Ok pins) w here = comes-there c k v w _ _ _ _ here
    stops (Err denial) w here =
        let e = ends-refused c k v w (copy_call caller copy (Ending no_pins (Refused denial))) (Refused denial) here in
        record { denial = e.denial; refused = e.refused; called = e.called; same = e.same }
