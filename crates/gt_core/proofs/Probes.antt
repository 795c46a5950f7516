-- A probe where its copy would make the access: it releases its pins.
use Rattle.gt_core.proofs.Words.{◌≡◌, inl, inr, refl, List, [], sym, ap, ◌∙◌, subst, arith, DomId, HeldPin, CallPins}
use Rattle.gt_core.proofs.Words.{OpenRequest, CopyArgs, Observation, Taken, CallResult, Granted, Step, Done, PinPurpose}
use Rattle.gt_core.proofs.Words.{Leg, LegPhase, LegNext, Phase, Walking, Accessing, Ending, Pinning, Pinned}
use Rattle.gt_core.proofs.Words.{CallerKnowledge, last_first, action_at, after_leg, leg_after, phase_after, held_in}
use Rattle.gt_core.proofs.Words.{HoldsAfter, History, Setting, StepsSoFar, PhaseStands, IsClean, phase_refusal}
use Rattle.gt_model.specs.declared.action.Action.TheVariants as actions
use Rattle.gt_calls.specs.Machine.{settled}
use Rattle.gt_calls.specs.Standing.{IsSettled}
use Rattle.gt_model.specs.declared.request.OpenRequest.TheVariants.{Probe}
use Rattle.gt_core.proofs.Outcomes.{ends-so}

-- a call that ends
pub ends-settled : (r : OpenRequest) (p : Phase) (pins : CallPins) (v : CallResult) → p ≡ Ending pins v → settled r p ≡ Ending pins v
ends-settled r p pins v is = ap (settled r) is ∙ by r where
  by : (r : OpenRequest) → settled r (Ending pins v) ≡ Ending pins v
  by (Probe c) = refl
  by r = refl

-- no rule applies because of it
pub settled-refusal : (r : OpenRequest) (p : Phase) → phase_refusal (settled r p) ≡ phase_refusal p
settled-refusal r p = grind arith

pub settled-place : (s : Setting) (h : History) (d : DomId) (r : OpenRequest) (so_far : StepsSoFar) (p : Phase) → PhaseStands s h d r so_far p → PhaseStands s h d r so_far (settled r p)
settled-place s h d (Probe c) so_far (Accessing a source dest) b = inr (c, inr refl, tt)
settled-place s h d (Probe c) so_far p b = b
settled-place s h d r so_far p b = b

pub settled-clean : (r : OpenRequest) (p : Phase) (steps : List (Step × Observation)) → IsClean p steps → IsClean (settled r p) steps
settled-clean (Probe c) (Accessing a source dest) steps clean = inl refl
settled-clean (Probe c) p steps clean = clean
settled-clean r p steps clean = clean

-- a copy comes to its access from the pin of a leg

abbrev pub IsAtAccess : Phase → Type 0
IsAtAccess (Accessing c source dest) = Unit {0}
IsAtAccess phase = ⊥

abbrev IsUnpinned : LegNext → Type 0
IsUnpinned (Pinned p) = ⊥
IsUnpinned next = Unit {0}

unpinned-not : (k : CallerKnowledge) (d : DomId) (pin_purpose : PinPurpose) (l : Leg) (next : LegNext) → IsUnpinned next → IsAtAccess (after_leg k d pin_purpose l next) → ⊥
unpinned-not k d pin_purpose l next u a = grind arith

abbrev TakesPin : LegPhase → Observation → Type 0
TakesPin (Pinning more word body second) Taken = Unit {0}
TakesPin at seen = ⊥

unpinned : (l : Leg) (at : LegPhase) (seen : Observation) → (TakesPin at seen → ⊥) → IsUnpinned (leg_after l at seen)
unpinned l at seen n = grind arith

abbrev ComesFromPin : Phase → Observation → Type 0
ComesFromPin (Walking pin_purpose l at) seen = TakesPin at seen
ComesFromPin phase seen = ⊥

from-leg : (k : CallerKnowledge) (d : DomId) (pin_purpose : PinPurpose) (l : Leg) (at : LegPhase) (seen : Observation) → IsAtAccess (after_leg k d pin_purpose l (leg_after l at seen)) → TakesPin at seen
from-leg k d pin_purpose l (Pinning more word body second) Taken a = tt
from-leg k d pin_purpose l at seen a = absurd (unpinned-not k d pin_purpose l (leg_after l at seen) (unpinned l at seen (λ n. n)) a)

from-pin : (k : CallerKnowledge) (d : DomId) (c : CopyArgs) (phase : Phase) (seen : Observation) → IsSettled (Probe c) phase → IsAtAccess (phase_after k d phase seen) → ComesFromPin phase seen
from-pin k d c (Walking pin_purpose l at) seen s a = from-leg k d pin_purpose l at seen a
from-pin k d c (Accessing b source dest) seen s a = s
from-pin k d c phase seen s a = grind arith

-- so a probe there holds pins
holds-there : (d : DomId) (phase : Phase) (seen : Observation) (step : Step) (old new : List HeldPin) (v : CallResult) → ComesFromPin phase seen → action_at d phase ≡ actions.Step step → HoldsAfter step seen old new (Done v)
    → new ≡ [] → v ≡ Granted → ⊥
holds-there d phase seen step old new v from acts holds none is = grind arith

-- and its next action is no end
pub done-settled : (k : CallerKnowledge) (d : DomId) (r : OpenRequest) (phase : Phase) (seen : Observation) (step : Step) (old : List HeldPin) (v : CallResult) → IsSettled r phase → action_at d phase ≡ actions.Step step
    → HoldsAfter step seen old (held_in (settled r (phase_after k d phase seen))) (Done v) → Done v ≡ action_at d (settled r (phase_after k d phase seen)) → Done v ≡ action_at d (phase_after k d phase seen)
done-settled k d r phase seen step old v s acts holds e = by r (phase_after k d phase seen) refl s holds e where
  there : (c a : CopyArgs) (source dest : _) → phase_after k d phase seen ≡ Accessing a source dest → IsSettled (Probe c) phase → HoldsAfter step seen old (last_first (record { source = source; dest = dest })) (Done v)
      → Done v ≡ action_at d (Ending (record { source = source; dest = dest }) Granted) → ⊥
  there c a source dest is s holds e = let ends = ends-so d (Ending (record { source = source; dest = dest }) Granted) v (sym e) in
      let empty : last_first (record { source = source; dest = dest }) ≡ [] = ap held_in ends.1 ∙ ends.2 in
      let granted : v ≡ Granted = (let f : Ending (record { source = source; dest = dest }) Granted ≡ Ending ends.0 v = ends.1 in cc) in
      holds-there d phase seen step old (last_first (record { source = source; dest = dest })) v (from-pin k d c phase seen s (subst IsAtAccess (sym is) tt)) acts holds empty granted

  by : (r : OpenRequest) (p : Phase) → phase_after k d phase seen ≡ p → IsSettled r phase → HoldsAfter step seen old (held_in (settled r p)) (Done v) → Done v ≡ action_at d (settled r p) → Done v ≡ action_at d p
  by (Probe c) (Accessing a source dest) is s holds e = absurd (there c a source dest is s holds e)
  by (Probe c) p is s holds e = e
  by r p is s holds e = e
