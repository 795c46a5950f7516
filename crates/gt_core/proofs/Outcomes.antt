-- How a call ends, and what its steps have left unchanged.
use Rattle.gt_core.proofs.Words.{◌≡◌, ◌⊎◌, inl, inr, ℕ, refl, List, [], ◌∷◌, ◌++◌, Option, Some, None, sym, ap, subst}
use Rattle.gt_core.proofs.Words.{All-push, All, DomId, Denial, Entry, Via, HeldPin, Direct, Through, CallPins}
use Rattle.gt_core.proofs.Words.{OpenRequest, Observation, Nothing, CallResult, Refused, Step, Unpin, StoreHeader, Done}
use Rattle.gt_core.proofs.Words.{PinPurpose, Mapping, Source, Dest, Phase, Walking, Accessing, Last, Ending, Leg}
use Rattle.gt_core.proofs.Words.{LegNext, Pinned, last_first, pins_so_far, no_pins, CallerKnowledge, via_judged}
use Rattle.gt_core.proofs.Words.{is_dest_granted, source_pair, dest_pair, second_leg, end_leg, phase_after, action_at}
use Rattle.gt_core.proofs.Words.{after_leg, after_source_pin, after_dest_pin, where_via, next_to_give, History, Setting}
use Rattle.gt_core.proofs.Words.{known_at, seen_by, StepsSoFar, LeavesAll, refusal_in, PhaseStands, EndsAfter, IsClean}
use Rattle.gt_core.proofs.Words.{Write, cond_both, CopyArgs, AccessPath, at_dest}
use Rattle.gt_model.specs.declared.action.Action.TheVariants as actions
use Rattle.gt_model.specs.declared.action.Step.TheVariants as call_steps
use Rattle.gt_model.specs.declared.request.PinHolder.TheVariants as holders
use Rattle.gt_calls.specs.declared.leg.LegNext.TheVariants as leg_outcomes
use Rattle.gt_calls.specs.declared.leg.LegPhase.TheVariants as leg_phases
use Rattle.gt_core.proofs.{Phases.by-leg, Phases.makes-same, Phases.by-giving, Phases.next_of, Phases.LeavesOrEnds}
use Rattle.gt_model.specs.declared.held.AccessPath.TheVariants.{Own}
use Rattle.gt_model.specs.declared.action.CallResult.TheVariants.{Mapped}

-- a single step of a call

abbrev pub IsSingle : Step → Type 0
IsSingle (StoreHeader version frames) = Unit {0}
IsSingle (call_steps.Read dom frame off len) = Unit {0}
IsSingle (call_steps.Write dom frame off len) = Unit {0}
IsSingle (Unpin p (holders.Mapping handle)) = Unit {0}
IsSingle step = ⊥

single-sees : (s : Setting) (h : History) (d : DomId) (step : Step) → IsSingle step → seen_by s h d step ≡ Nothing
single-sees s h d (StoreHeader version frames) a = refl
single-sees s h d (call_steps.Read dom frame off len) a = refl
single-sees s h d (call_steps.Write dom frame off len) a = refl
single-sees s h d (Unpin p (holders.Mapping handle)) a = refl
single-sees s h d (Unpin p (holders.Leg n)) a = refl
single-sees s h d step a = absurd a

-- the call ends after it
pub single-ends : (s : Setting) (h : History) (d : DomId) (r : OpenRequest) (so_far : StepsSoFar) (phase : Phase) (step : Step) → action_at d phase ≡ actions.Step step → PhaseStands s h d r so_far phase → IsSingle step
    → (verdict : CallResult) × (next_of s h d phase step ≡ Ending no_pins verdict) × EndsAfter r step verdict
single-ends s h d r so_far (Walking pin_purpose l at) step e b a = absurd (by-leg (λ (z : Step). IsSingle z → ⊥) (λ dom n. n) (λ dom gref n. n) (λ dom gref body_word n. n) (λ p n. n) l at (subst IsSingle (sym (makes-same _ _ e)) a))
single-ends s h d r so_far (Last last verdict) step e b a =
    (verdict, ap (phase_after (known_at s h d) d (Last last verdict)) (single-sees s h d step a), subst (λ (z : Step). EndsAfter r z verdict) (makes-same _ _ e) b)
single-ends s h d r so_far (Ending pins verdict) step e b a = absurd (by-giving (λ (z : Step). IsSingle z → ⊥) (λ p n f. f) (last_first pins) verdict step e a)
single-ends s h d r so_far phase step e b a = absurd (subst IsSingle (sym (makes-same _ _ e)) a)

-- it is not refused
pub after-plain : (r : OpenRequest) (step : Step) (verdict : CallResult) → EndsAfter r step verdict → refusal_in (Some verdict) ≡ None
after-plain r (StoreHeader version frames) verdict (inl a) = ap (λ (v : CallResult). refusal_in (Some v)) a.1
after-plain r (StoreHeader version frames) verdict (inr a) = ap (λ (v : CallResult). refusal_in (Some v)) a.1
after-plain r step verdict a = ap (λ (v : CallResult). refusal_in (Some v)) a

-- the steps so far have left everything unchanged, unless the call ends with Ok

clean-all : (p : Phase) (steps : List (Step × Observation)) → All LeavesAll steps → IsClean p steps
clean-all (Ending pins verdict) steps a = inr a
clean-all p steps a = a

-- the steps with this one have too, if the step leaves everything unchanged or ends its call
pub clean-next : (s : Setting) (h : History) (d : DomId) (phase : Phase) (step : Step) (steps : List (Step × Observation)) → action_at d phase ≡ actions.Step step → LeavesOrEnds s h d phase step → IsClean phase steps
    → IsClean (next_of s h d phase step) (steps ++ (step, seen_by s h d step) ∷ [])
clean-next s h d (Ending pins verdict) step steps e x clean = by-giving (λ (z : Step). IsClean (next_of s h d (Ending pins verdict) z) (steps ++ (z, seen_by s h d z) ∷ [])) (λ p n. by p n clean) (last_first pins) verdict step e
  where
    by : (p : HeldPin) (n : ℕ) → (refusal_in (Some verdict) ≡ None) ⊎ All LeavesAll steps → (refusal_in (Some verdict) ≡ None) ⊎ All LeavesAll (steps ++ (Unpin p (holders.Leg n), Nothing) ∷ [])
    by p n (inl none) = inl none
    by p n (inr all) = inr (All-push LeavesAll steps (Unpin p (holders.Leg n), Nothing) all tt)
clean-next s h d phase step steps e (inl leaves) all =
    clean-all (next_of s h d phase step) (steps ++ (step, seen_by s h d step) ∷ []) (All-push LeavesAll steps (step, seen_by s h d step) all leaves)
clean-next s h d phase step steps e (inr ends) all = ends (steps ++ (step, seen_by s h d step) ∷ [])

-- how a call ends

-- a call whose next action is its end holds no pins
pub ends-so : (d : DomId) (p : Phase) (v : CallResult) → action_at d p ≡ Done v → (pins : CallPins) × (p ≡ Ending pins v) × (last_first pins ≡ [])
ends-so d (Ending pins verdict) v e = by (last_first pins) refl e where
  by : (held : List HeldPin) → last_first pins ≡ held → next_to_give held verdict ≡ Done v → (ps : CallPins) × (Ending pins verdict ≡ Ending ps v) × (last_first ps ≡ [])
  by [] is f = let w : verdict ≡ v = cc in (pins, ap (Ending pins) w, is)
  by (p ∷ ps) is f = cc
ends-so d p v e = cc

-- a call that continues to its destination has not ended
dest-not : (k : CallerKnowledge) (d : DomId) (c : CopyArgs) (source : AccessPath) (v : CallResult) → action_at d (at_dest k d c source) ≡ Done v → ⊥
dest-not k d c source v e =
    cond_both (is_dest_granted c) (Walking (Dest c source None) (end_leg k d c.dest Write c.len) leg_phases.Header) (Accessing c source Own) (λ p. action_at d p ≡ Done v → ⊥) (λ b f. cc) (λ b f. cc) e

-- nor has one that is checked after a Via
where-not : (d : DomId) (o : Option CallResult) (pin_purpose : PinPurpose) (second : Leg) (v : CallResult) → ((w : CallResult) → next_to_give (last_first (pins_so_far pin_purpose)) w ≡ Done v → ⊥) → action_at d (where_via o pin_purpose second) ≡ Done v → ⊥
where-not d None pin_purpose second v held e = cc
where-not d (Some w) pin_purpose second v held e = held w e

-- the end of a leg: a refusal, or the pin of a map
pub walk-done : (k : CallerKnowledge) (d : DomId) (pin_purpose : PinPurpose) (l : Leg) (next : LegNext) (v : CallResult) → action_at d (after_leg k d pin_purpose l next) ≡ Done v
    → ((denial : Denial) × (v ≡ Refused denial)) ⊎ ((p : HeldPin) × (v ≡ Mapped p) × (next ≡ Pinned p) × (pin_purpose ≡ Mapping))
walk-done k d pin_purpose l (leg_outcomes.Refused denial) v e = by (last_first (pins_so_far pin_purpose)) e where
  by : (held : List HeldPin) → next_to_give held (Refused denial) ≡ Done v → ((denial : Denial) × (v ≡ Refused denial)) ⊎ ((p : HeldPin) × (v ≡ Mapped p) × (leg_outcomes.Refused denial ≡ Pinned p) × (pin_purpose ≡ Mapping))
  by [] f = let w : v ≡ Refused denial = cc in inl (denial, w)
  by (q ∷ qs) f = cc
walk-done k d Mapping l (Pinned p) v e = let w : v ≡ Mapped p = cc in inr (p, w, refl, refl)
walk-done k d (Source c None) l (Pinned p) v e = absurd (by p.entry e) where
  by : (entry : Entry) → action_at d (after_source_pin k d c l p entry) ≡ Done v → ⊥
  by (Via dom ro dom2 gref) f = where-not d (via_judged k (source_pair d c dom2) dom2) (Source c (Some p)) (second_leg k l dom2 gref) v (λ w g. cc) f
  by entry f = dest-not k d c (Direct p) v f
walk-done k d (Source c (Some via)) l (Pinned p) v e = absurd (dest-not k d c (Through via p) v e)
walk-done k d (Dest c source None) l (Pinned p) v e = absurd (by p.entry e) where
  by : (entry : Entry) → action_at d (after_dest_pin k d c source l p entry) ≡ Done v → ⊥
  by (Via dom ro dom2 gref) f = where-not d (via_judged k (dest_pair d source dom2) dom2) (Dest c source (Some p)) (second_leg k l dom2 gref) v (λ w g. cc) f
  by entry f = cc
walk-done k d pin_purpose l next v e = cc
