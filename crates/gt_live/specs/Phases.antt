-- The steps of a call from phase to phase, as its machine has them. The code's own representation. It is in specs/
-- because contracts cite it.
use Rattle.std.specs.Prelude.{◌≡◌, ℕ, List, [], ◌∷◌, Some}
use Rattle.gt_types.specs.declared.DomId.{DomId}
use Rattle.gt_word_history.specs.Rule.{Layout}
use Rattle.gt_word_history.specs.declared.view.View.{View}
use Rattle.gt_model.specs.declared.action.Action.TheVariants as actions
use Rattle.gt_types.specs.declared.places.Spot.{Spot}
use Rattle.gt_model.specs.declared.action.Observation.{Observation}
use Rattle.gt_model.specs.declared.action.Step.{Step}
use Rattle.gt_model.specs.declared.action.Step.TheVariants as call_steps
use Rattle.gt_calls.specs.declared.call.Phase.{Phase}
use Rattle.gt_calls.specs.Machine.{action_at, phase_after}
use Rattle.gt_model.specs.Rules.{CallerKnowledge}
use Rattle.gt_live.specs.Driving.{CanMake}
use Rattle.gt_live.specs.Walks.{MakesStep}

-- a step of a call: the phase that it was in, what it saw, and the seat's view before it
abbrev pub PhaseStep : Type 0
PhaseStep = Phase × Observation × View

-- by these steps, the last first, a call got from the phase start to another, and the seat's view from v to w: each
-- step was the next one of its phase
abbrev pub RunsBy : CallerKnowledge → Layout → DomId → Phase → View → List PhaseStep → Phase → View → Type 0
RunsBy c k caller start v [] phase w = (phase ≡ start) × (w ≡ v)
RunsBy c k caller start v ((at, seen, u) ∷ xs) phase w =
    MakesStep k (Some (action_at caller at)) seen u w × (phase ≡ phase_after c caller at seen)
    × RunsBy c k caller start v xs at u

-- a call got from one phase to the other
abbrev pub Runs : CallerKnowledge → Layout → DomId → Phase → View → Phase → View → Type 0
Runs c k caller start v phase w = (xs : List PhaseStep) × RunsBy c k caller start v xs phase w

-- from each phase that a call reaches from here, its next step can be made, unless it is an access
abbrev pub CanRun : CallerKnowledge → Layout → DomId → Phase → View → Type 0
CanRun c k caller start v =
    (at : Phase) (w : View) (step : Step) → Runs c k caller start v at w → action_at caller at ≡ actions.Step step
    → ((from to : Spot) (len : ℕ) → step ≡ call_steps.Copy from to len → ⊥) → CanMake k w step
