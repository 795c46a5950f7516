-- A copy driven to its access, and from there to its end.
use Rattle.gt_live.proofs.Moments.{walk-moments}
use Rattle.std.proofs.Common.{◌≡◌, ℕ, ◌<◌, Bool, true, false, cond, refl, sym, ap, ◌∙◌, subst, List, [], ◌∷◌, ◌++◌}
use Rattle.std.proofs.Common.{Option, Some, None, append_assoc}
use mathlib.Core.Path.{fun_ext}
use Rattle.gt_types.specs.declared.DomId.{DomId}
use Rattle.gt_types.specs.declared.denial.Denial.{Denial}
use Rattle.gt_types.specs.declared.Dir.TheVariants.{Read}
use Rattle.gt_word_history.specs.Rule.{Layout}
use Rattle.gt_word_history.specs.declared.view.View.{View}
use Rattle.gt_model.specs.declared.action.Action.{Action}
use Rattle.gt_model.specs.declared.action.Action.TheVariants.{Done}
use Rattle.gt_model.specs.declared.action.Action.TheVariants as actions
use Rattle.gt_types.specs.declared.places.Spot.{Spot}
use Rattle.gt_model.specs.declared.action.Observation.{Observation}
use Rattle.gt_model.specs.declared.action.Observation.TheVariants.{Nothing}
use Rattle.gt_model.specs.declared.action.Step.{Step}
use Rattle.gt_model.specs.declared.action.Step.TheVariants.{Pin}
use Rattle.gt_model.specs.declared.action.Step.TheVariants as call_steps
use Rattle.gt_model.specs.declared.action.CallResult.{CallResult}
use Rattle.gt_model.specs.declared.action.CallResult.TheVariants.{Granted, Given, Mapped, Refused}
use Rattle.gt_calls.specs.declared.call.Call.{Call}
use Rattle.gt_calls.specs.declared.call.Phase.{Phase}
use Rattle.gt_calls.specs.declared.call.Phase.TheVariants.{Storing, StoringSecond, Exchanging, Looking, Changing}
use Rattle.gt_calls.specs.declared.call.Phase.TheVariants.{Walking, Accessing, Asking, Last, Ending}
use Rattle.gt_calls.specs.declared.copying.PinPurpose.TheVariants.{Source}
use Rattle.gt_model.specs.declared.held.HeldPin.{HeldPin}
use Rattle.gt_model.specs.declared.held.CallPins.{CallPins}
use Rattle.gt_model.specs.declared.held.AccessPath.{AccessPath}
use Rattle.gt_model.specs.declared.held.AccessPath.TheVariants.{Own}
use Rattle.gt_model.specs.declared.leg.Leg.{Leg}
use Rattle.gt_calls.specs.declared.leg.LegPhase.{LegPhase}
use Rattle.gt_calls.specs.declared.leg.LegPhase.TheVariants.{Header, Look, Body, Second, Pinning, Relook}
use Rattle.gt_model.specs.declared.request.OpenRequest.{OpenRequest}
use Rattle.gt_model.specs.declared.request.OpenRequest.TheVariants as asks
use Rattle.gt_types.specs.declared.copies.CopyArgs.{CopyArgs}
use Rattle.gt_calls.specs.Counting.{steps_to_come}
use Rattle.gt_calls.specs.Following.{FitsNext, Goes}
use Rattle.gt_model.specs.Holding.{last_first}
use Rattle.gt_calls.specs.Machine.{action_at, at_dest, at_source, first_phase, next_to_give, phase_after, remains_of}
use Rattle.gt_calls.specs.Machine.{settled, standing_after}
use Rattle.gt_calls.specs.Legs.{leg_step}
use Rattle.gt_model.specs.Path.{end_leg, give_back, path}
use Rattle.gt_calls.specs.Resting.{Rests}
use Rattle.gt_model.specs.Rules.{CallerKnowledge}
use Rattle.gt_types.specs.Copies.{is_source_granted}
use Rattle.gt_calls.specs.Standing.{IsAt, IsFreshCall, held_in, pins_at, pins_by_call}
use Rattle.gt_live.specs.Driving.{CanMake, Knows}
use Rattle.gt_live.specs.Underway.{AreOfRun, AtAccess, EndsRefused, HasTaken, StandsWell, IsUnderway}
use Rattle.gt_live.specs.Walks.{Called, Made, MakesStep, view_after, all_shown, shown_by}
use Rattle.gt_live.proofs.Advancing.{same-call}
use Rattle.gt_live.proofs.Copying.{IsCopy, Tries, can-walk, dest-stands, step-stands, tries-pin}
use Rattle.gt_live.proofs.Making.{made-fits, made-gains, same-self}
use Rattle.gt_live.proofs.Taking.{all-back, none-taken}

-- the pins of a call, by where it stands
held-there : (call : Call) (phase : Phase) → call.phase ≡ Some phase → pins_by_call call ≡ pins_at phase
held-there call phase there = ap (λ (o : Option Phase). pins_by_call (record call { phase = o })) there

is-copy : (request : OpenRequest) (copy : CopyArgs) → request ≡ asks.Copy copy → IsCopy request
is-copy request copy is = subst (λ (r : OpenRequest). IsCopy r) (sym is) tt

source-stands : (c : CallerKnowledge) (k : Layout) (caller : DomId) (v : View) (knows : Knows c k caller v) (copy : CopyArgs) → StandsWell k v v [] (at_source c caller copy)
source-stands c k caller v knows copy = by (is_source_granted copy)
  where
    by : (b : Bool) → StandsWell k v v [] (cond b (Walking (Source copy None) (end_leg c caller copy.source Read copy.len) Header) (at_dest c caller copy Own))
    by true = record { stays = tt; taken = none-taken k v v (same-self v); of_run = tt }
    by false = dest-stands c k caller v knows v [] copy Own (none-taken k v v (same-self v)) tt

-- a copy that was opened goes on from its first action
pub starts : (c : CallerKnowledge) (k : Layout) (v : View) (call call' : Call) (action : Action) (copy : CopyArgs) → Knows c k call.caller v → IsFreshCall c call → call.request ≡ asks.Copy copy → call'.caller ≡ call.caller → call'.request ≡ call.request → Goes c call Nothing call' action
    → IsUnderway c k v v call' action
starts c k v call call' action copy knows fresh is callers requests goes =
    let on = goes.first fresh in let t = call.caller in let r = call.request in let phase = at_source c t copy in
    let same = same-call call call' callers requests in
    let there : call'.phase ≡ Some phase =
    goes.moves ∙ (ap (λ (o : Option Phase). Some (standing_after c t r o Nothing)) fresh.unmoved ∙ ap (λ (x : OpenRequest). Some (first_phase c t x)) is) in
    let acts : action ≡ action_at t phase = goes.acts ∙ (ap (λ (o : Option Phase). action_at t (standing_after c t r o Nothing)) fresh.unmoved ∙ ap (λ (x : OpenRequest). action_at t (first_phase c t x)) is) in
    let here : IsUnderway c k v v (record call { phase = call'.phase }) action =
    record {
      steps = [];
      view = refl;
      walked = tt;
      at = subst (λ (z : Call). IsAt c z []) (sym same) on.0.at;
      goes = on.0.follows;
      rests = on.0.rests;
      copy = copy;
      of_copy = is;
      phase = phase;
      there = there;
      acts = acts;
      stands = source-stands c k t v knows copy;
    } in
    subst (λ (z : Call). IsUnderway c k v v z action) same here

-- its next step can be made, where it is no access
pub makes-copy : (c : CallerKnowledge) (k : Layout) (v w : View) (call : Call) (s : Step) → Knows c k call.caller v → IsUnderway c k v w call (actions.Step s) → ((from to : Spot) (len : ℕ) → s ≡ call_steps.Copy from to len → ⊥) → CanMake k w s
makes-copy c k v w call s knows u other =
    let held = held-there call u.phase u.there in
    subst (λ (z : View). CanMake k z s) (sym u.view)
    (can-walk c k call.caller v knows call.request (is-copy call.request u.copy u.of_copy) (pins_by_call call) u.steps s u.walked
    (subst (λ (h : CallPins). HasTaken k (last_first h) v (view_after u.steps v)) (sym held) (subst (λ (z : View). HasTaken k (held_in u.phase) v z) u.view u.stands.taken))
    (subst (λ (h : CallPins). AreOfRun k (last_first h)) (sym held) u.stands.of_run) u.rests other)

-- a copy is no probe
copy-settled : (r : OpenRequest) (copy : CopyArgs) (p : Phase) → r ≡ asks.Copy copy → settled r p ≡ p
copy-settled r copy p is = ap (λ (q : OpenRequest). settled q p) is

-- after a step that was made it goes on, and has fewer to come
pub goes-on : (c : CallerKnowledge) (k : Layout) (v w w' : View) (call call' : Call) (action : Action) (s : Step) (x : Observation) → Knows c k call.caller v → IsUnderway c k v w call (actions.Step s) → Made k s x w w' → call'.caller ≡ call.caller → call'.request ≡ call.request
    → Goes c call x call' action → IsUnderway c k v w' call' action × (steps_to_come call' < steps_to_come call)
goes-on c k v w w' call call' action s x knows u m callers requests goes =
    let t = call.caller in let r = call.request in let mid = view_after u.steps v in
    let fits : FitsNext (path c t r (all_shown u.steps)) x = subst (λ (o : Option Action). FitsNext o x) (sym u.goes) (made-fits k s x w w' m) in
    let on = goes.later (all_shown u.steps) u.at fits in
    let m1 : Made k s x mid w' = subst (λ (z : View). Made k s x z w') u.view m in
    let gain = made-gains k s x mid w' m1 in
    let view : w' ≡ view_after (gain.step ∷ u.steps) v = gain.view in
    let m2 : Made k s (shown_by gain.step) mid (view_after (gain.step ∷ u.steps) v) = subst (λ (z : View). Made k s (shown_by gain.step) mid z) view (subst (λ (y : Observation). Made k s y mid w') (sym gain.shows) m1) in
    let made : MakesStep k (path c t r (all_shown u.steps)) (shown_by gain.step) mid (view_after (gain.step ∷ u.steps) v) =
    subst (λ (o : Option Action). MakesStep k o (shown_by gain.step) mid (view_after (gain.step ∷ u.steps) v)) (sym u.goes) m2 in
    let held = held-there call u.phase u.there in
    let well : StandsWell k v mid u.steps u.phase = subst (λ (z : View). StandsWell k v z u.steps u.phase) u.view u.stands in
    let tries : (p : HeldPin) → s ≡ Pin p → Tries c k t v knows p mid =
    λ p e. tries-pin c k t v knows r (is-copy r u.copy u.of_copy) (pins_by_call call) u.steps p u.walked (subst (λ (h : CallPins). HasTaken k (last_first h) v mid) (sym held) well.taken)
    (subst (λ (h : CallPins). AreOfRun k (last_first h)) (sym held) well.of_run) (subst (λ (y : Step). Rests c t r (pins_by_call call) (all_shown u.steps) (actions.Step y)) e u.rests).1 in
    let same = same-call call call' callers requests in
    let here : IsUnderway c k v w' (record call { phase = call'.phase }) action =
    record {
      steps = gain.step ∷ u.steps;
      view = view;
      walked = (made, u.walked);
      at = subst (λ (z : Call). IsAt c z (all_shown u.steps ++ shown_by gain.step ∷ [])) (sym same) (subst (λ (y : Observation). IsAt c call' (all_shown u.steps ++ y ∷ [])) (sym gain.shows) on.0.at);
      goes = subst (λ (y : Observation). path c t r (all_shown u.steps ++ y ∷ []) ≡ Some action) (sym gain.shows) on.0.follows;
      rests = subst (λ (y : Observation). Rests c t r (pins_by_call call') (all_shown u.steps ++ y ∷ []) action) (sym gain.shows) on.0.rests;
      copy = u.copy;
      of_copy = u.of_copy;
      phase = phase_after c t u.phase x;
      there = goes.moves ∙ (ap (λ (o : Option Phase). Some (standing_after c t r o x)) u.there ∙ ap (λ (p : Phase). Some p) (copy-settled r u.copy (phase_after c t u.phase x) u.of_copy));
      acts = goes.acts ∙ (ap (λ (o : Option Phase). action_at t (standing_after c t r o x)) u.there ∙ ap (action_at t) (copy-settled r u.copy (phase_after c t u.phase x) u.of_copy));
      stands = step-stands c k t v knows mid w' u.steps well.taken.seen well.taken.position u.phase s x u.acts well m1 tries;
    } in
    (subst (λ (z : Call). IsUnderway c k v w' z action) same here, on.2)

-- the end of a copy that comes to no access
pub ends-refused : (c : CallerKnowledge) (k : Layout) (v w : View) (call : Call) (verdict : CallResult) → IsUnderway c k v w call (Done verdict) → EndsRefused c k call verdict v w
ends-refused c k v w call verdict u = by u.phase u.acts u.stands
  where
    at-end : (pins : CallPins) (denial : Denial) (ps : List HeldPin) → last_first pins ≡ ps → Done verdict ≡ next_to_give ps (Refused denial) → StandsWell k v w u.steps (Ending pins (Refused denial)) → EndsRefused c k call verdict v w
    at-end pins denial [] e a well =
        let same : verdict ≡ Refused denial = cc in
        record {
          denial = denial;
          refused = same;
          called = subst (λ (y : CallResult). Called k (path c call.caller call.request) y v w) (sym same)
              (record { steps = u.steps; view = u.view; walked = u.walked; moments = walk-moments k (path c call.caller call.request) v u.steps u.walked; answered = u.goes ∙ ap (λ (y : CallResult). Some (Done y)) same; carried = well.stays });
          same = all-back k v w (subst (λ (qs : List HeldPin). HasTaken k qs v w) e well.taken);
        }
    at-end pins denial (p ∷ ps) e a well = cc

    by : (phase : Phase) → Done verdict ≡ action_at call.caller phase → StandsWell k v w u.steps phase → EndsRefused c k call verdict v w
    by (Walking pin_purpose l at) a well = cc
    by (Accessing copy source dest) a well = cc
    by (Ending pins (Refused denial)) a well = at-end pins denial (last_first pins) refl a well
    by (Ending pins Granted) a well = absurd well.stays
    by (Ending pins (Given value)) a well = absurd well.stays
    by (Ending pins (Mapped p)) a well = absurd well.stays
    by (Storing gref entry) a well = absurd well.stays
    by (StoringSecond gref entry) a well = absurd well.stays
    by (Exchanging gref looked change) a well = absurd well.stays
    by (Looking gref change more) a well = absurd well.stays
    by (Changing gref change more looked) a well = absurd well.stays
    by (Asking dom question) a well = absurd well.stays
    by (Last step other) a well = absurd well.stays

-- no leg makes an access
pub no-leg : (l : Leg) (at : LegPhase) (from to : Spot) (len : ℕ) → actions.Step (call_steps.Copy from to len) ≡ actions.Step (leg_step l at) → ⊥
no-leg l Header from to len e = cc
no-leg l (Look more) from to len e = cc
no-leg l (Body more word) from to len e = cc
no-leg l (Second more word body) from to len e = cc
no-leg l (Pinning more word body second) from to len e = cc
no-leg l (Relook more word rule) from to len e = cc

no-end : (ps : List HeldPin) (verdict : CallResult) (from to : Spot) (len : ℕ) → actions.Step (call_steps.Copy from to len) ≡ next_to_give ps verdict → ⊥
no-end [] verdict from to len e = cc
no-end (p ∷ ps) verdict from to len e = cc

-- a copy that comes to its access
pub comes-there : (c : CallerKnowledge) (k : Layout) (v w : View) (call : Call) (from to : Spot) (len : ℕ) → IsUnderway c k v w call (actions.Step (call_steps.Copy from to len)) → AtAccess c k call from to len v w
comes-there c k v w call from to len u = by u.phase u.there u.acts u.stands
  where
    here : (copy : CopyArgs) (source dest : AccessPath) → call.phase ≡ Some (Accessing copy source dest) → StandsWell k v w u.steps (Accessing copy source dest) → AtAccess c k call from to len v w
    here copy source dest there well =
        let t = call.caller in let r = call.request in let way = path c t r in
        let held : pins_by_call call ≡ record { source = source; dest = dest } = held-there call (Accessing copy source dest) there in
        let at : IsAt c (record call { phase = Some (Accessing copy source dest) }) (all_shown u.steps) = subst (λ (o : Option Phase). IsAt c (record call { phase = o }) (all_shown u.steps)) there u.at in
        let leads : (vs : List Observation) → way ((all_shown u.steps ++ Nothing ∷ []) ++ vs) ≡ give_back (last_first (record { source = source; dest = dest })) Granted vs =
        λ vs. ap way (append_assoc (all_shown u.steps) (Nothing ∷ []) vs) ∙ (at.leads (Nothing ∷ vs)
        ∙ ap (λ (q : OpenRequest). remains_of c t q (Accessing copy source dest) (Nothing ∷ vs)) u.of_copy) in
        record {
          comes = record { steps = u.steps; view = u.view; walked = u.walked; moments = walk-moments k way v u.steps u.walked; next = u.goes; is_access = tt };
          copy = copy;
          there = there ∙ ap (λ (h : CallPins). Some (Accessing copy h.source h.dest)) (sym held);
          rests = u.rests.1;
          taken = subst (λ (h : CallPins). HasTaken k (last_first h) v w) (sym held) well.taken;
          of_run = subst (λ (h : CallPins). AreOfRun k (last_first h)) (sym held) well.of_run;
          ends = fun_ext leads ∙ ap (λ (h : CallPins). give_back (last_first h) Granted) (sym held);
        }

    by : (phase : Phase) → call.phase ≡ Some phase → actions.Step (call_steps.Copy from to len) ≡ action_at call.caller phase → StandsWell k v w u.steps phase → AtAccess c k call from to len v w
    by (Walking pin_purpose l at) there a well = absurd (no-leg l at from to len a)
    by (Accessing copy source dest) there a well = here copy source dest there well
    by (Ending pins verdict) there a well = absurd (no-end (last_first pins) verdict from to len a)
    by (Storing gref entry) there a well = absurd well.stays
    by (StoringSecond gref entry) there a well = absurd well.stays
    by (Exchanging gref looked change) there a well = absurd well.stays
    by (Looking gref change more) there a well = absurd well.stays
    by (Changing gref change more looked) there a well = absurd well.stays
    by (Asking dom question) there a well = absurd well.stays
    by (Last step other) there a well = absurd well.stays
