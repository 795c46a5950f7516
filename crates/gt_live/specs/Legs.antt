-- A leg walked on the words, one step after another. The code's own representation. It is in specs/ because contracts
-- cite it.
use Rattle.std.specs.Prelude.{◌≡◌, List, [], ◌∷◌, Result, Ok, Err}
use Rattle.gt_types.specs.declared.denial.Denial.{Denial}
use Rattle.gt_word_history.specs.Rule.{Layout}
use Rattle.gt_word_history.specs.declared.view.View.{View}
use Rattle.gt_model.specs.declared.action.Observation.{Observation}
use Rattle.gt_model.specs.declared.held.HeldPin.{HeldPin}
use Rattle.gt_model.specs.declared.leg.Leg.{Leg}
use Rattle.gt_calls.specs.declared.leg.LegNext.{LegNext}
use Rattle.gt_calls.specs.declared.leg.LegNext.TheVariants.{Going, Refused, Pinned}
use Rattle.gt_calls.specs.declared.leg.LegPhase.{LegPhase}
use Rattle.gt_calls.specs.declared.leg.LegPhase.TheVariants.{Header}
use Rattle.gt_calls.specs.Legs.{leg_after, leg_step}
use Rattle.gt_live.specs.Driving.{CanMake}
use Rattle.gt_live.specs.Walks.{Made}

-- a step of a leg: the state of the leg before it, what it saw, and the seat's view before it
abbrev pub LegStep : Type 0
LegStep = LegPhase × Observation × View

-- by these steps, the last first, the leg got from its header to next, and the seat's view from v to w
abbrev pub ComesBy : Layout → Leg → View → List LegStep → LegNext → View → Type 0
ComesBy k l v [] next w = (next ≡ Going Header) × (w ≡ v)
ComesBy k l v ((at, seen, u) ∷ xs) next w =
    Made k (leg_step l at) seen u w × (next ≡ leg_after l at seen) × ComesBy k l v xs (Going at) u

-- the leg was walked from its header to next
abbrev pub WalksLeg : Layout → Leg → View → LegNext → View → Type 0
WalksLeg k l v next w = (xs : List LegStep) × ComesBy k l v xs next w

-- from each state that the leg reaches, its next step can be made
abbrev pub CanWalkLeg : Layout → Leg → View → Type 0
CanWalkLeg k l v = (at : LegPhase) (w : View) → WalksLeg k l v (Going at) w → CanMake k w (leg_step l at)

-- how a leg ended: with its pin, or with a refusal
abbrev pub next_by : Result HeldPin Denial → LegNext
next_by (Ok p) = Pinned p
next_by (Err denial) = Refused denial
