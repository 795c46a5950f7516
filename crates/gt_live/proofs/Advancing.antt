-- A call that goes on.
use Rattle.gt_live.proofs.Moments.{walk-moments}
use Rattle.std.proofs.Common.{◌≡◌, ℕ, ◌+◌, ◌<◌, refl, sym, ap, ◌∙◌, subst, List, [], ◌∷◌, ◌++◌, Option, Some, None}
use Rattle.std.proofs.Common.{inl, inr, arith}
use Rattle.gt_types.specs.declared.DomId.{DomId}
use Rattle.gt_types.specs.declared.GrantRef.{GrantRef}
use Rattle.gt_types.specs.declared.denial.Facts.{Facts}
use Rattle.gt_types.specs.declared.denial.Facts.TheVariants as facts
use Rattle.gt_model.specs.declared.change.EntryChange.{EntryChange}
use Rattle.gt_model.specs.declared.change.EntryChange.TheVariants.{Publish, Revoke, Withdraw, Demote, Promote}
use Rattle.gt_model.specs.Words.{unit_of}
use Rattle.gt_word_history.specs.Views.{last_of}
use Rattle.gt_words.specs.Conditions.{IsNotEarlier, SeesNoEarlier}
use Rattle.gt_word_history.specs.Rule.{Layout, position_in}
use Rattle.gt_word_history.specs.Steps.{changed_word, on_entry, on_header}
use Rattle.gt_word_history.specs.declared.view.EntryStep.{EntryStep}
use Rattle.gt_word_history.specs.declared.view.EntryStep.TheVariants.{ChangeMissed, Looked, PinMissed}
use Rattle.gt_word_history.specs.declared.view.HeaderStep.TheVariants as header
use Rattle.gt_word_history.specs.History.{Moment}
use Rattle.gt_word_history.specs.declared.view.SeatStep.{SeatStep}
use Rattle.gt_word_history.specs.declared.view.View.{View}
use Rattle.gt_model.specs.declared.action.Action.{Action}
use Rattle.gt_model.specs.declared.action.Action.TheVariants.{Done}
use Rattle.gt_model.specs.declared.action.Action.TheVariants as actions
use Rattle.gt_model.specs.declared.action.Observation.{Observation}
use Rattle.gt_model.specs.declared.action.Observation.TheVariants.{Word, Taken, Missed}
use Rattle.gt_model.specs.declared.action.Observation.TheVariants as observations
use Rattle.gt_model.specs.declared.action.Step.{Step}
use Rattle.gt_model.specs.declared.action.Step.TheVariants.{LookHeader, LookControl, LookBody, Pin, Unpin, StoreBody}
use Rattle.gt_model.specs.declared.action.Step.TheVariants.{StoreHeader, Exchange, Read, Write, Copy}
use Rattle.gt_model.specs.declared.action.CallResult.{CallResult}
use Rattle.gt_model.specs.declared.action.CallResult.TheVariants.{Granted, Given, Mapped, Refused}
use Rattle.gt_calls.specs.declared.call.Call.{Call}
use Rattle.gt_model.specs.declared.held.HeldPin.{HeldPin}
use Rattle.gt_model.specs.declared.request.OpenRequest.{OpenRequest}
use Rattle.gt_model.specs.declared.request.PinHolder.TheVariants as holders
use Rattle.gt_calls.specs.Counting.{steps_to_come}
use Rattle.gt_calls.specs.Following.{FitsNext, Goes, HoldsAfter, IsStepAction as BeginsSo}
use Rattle.gt_model.specs.Path.{path}
use Rattle.gt_calls.specs.Resting.{Rests}
use Rattle.gt_model.specs.Rules.{CallerKnowledge}
use Rattle.gt_calls.specs.Standing.{IsAt, IsFreshCall, held_by_call, pins_by_call}
use Rattle.gt_live.specs.declared.driving.Effect.{Effect}
use Rattle.gt_live.specs.declared.driving.Effect.TheVariants.{Nothing}
use Rattle.gt_live.specs.Driving.{ActionCarries, CanMake, Going, IsSame, Knows, Leaves, StandsSo}
use Rattle.gt_live.specs.Effects.{Answers, EndsSo, IsFound, IsFoundAt, IsFoundIn, ResultIsFound, effect_of}
use Rattle.gt_live.specs.Ending.{IsAnswerTo, WaitsForNobody}
use Rattle.gt_live.specs.Walks.{Called, CarriesFound, Made, MakesStep, CarriesSteps, view_after, found_by, all_shown}
use Rattle.gt_live.specs.Walks.{shown_by}
use Rattle.gt_live.proofs.ActionsAllowed.{can-make, leaves}
use Rattle.gt_live.proofs.Ends.{path-sound}
use Rattle.gt_live.proofs.Making.{made-fits, made-gains, same-self}

-- at its end a call holds nothing
abbrev pub IsFreeAtEnd : Action → List HeldPin → Type 0
IsFreeAtEnd (actions.Step s) held = Unit {0}
IsFreeAtEnd (Done verdict) held = held ≡ []

free-at-end : (c : CallerKnowledge) (caller : DomId) (request : OpenRequest) (call : Call) (vs : List Observation) (action : Action) → Rests c caller request (pins_by_call call) vs action → IsFreeAtEnd action (held_by_call call)
free-at-end c caller request call vs (actions.Step s) r = tt
free-at-end c caller request call vs (Done verdict) r = r

-- a call that waits for nobody holds nothing between its steps
held-none : (caller : DomId) (s : Step) (x : Observation) (old new : List HeldPin) (action : Action) → old ≡ [] → HoldsAfter s x old new action → IsFreeAtEnd action new → EndsSo caller s x action → new ≡ []
held-none caller (Pin p) Taken old new action e (inl h) free ends = by action free ends
  where
    by : (a : Action) → IsFreeAtEnd a new → EndsSo caller (Pin p) Taken a → new ≡ []
    by (actions.Step s) f no_effect = cc
    by (Done verdict) f so = f
held-none caller (Pin p) Taken old new action e (inr h) free ends = h.1 ∙ e
held-none caller (Pin p) observations.Nothing old new action e h free ends = h ∙ e
held-none caller (Pin p) (Word n) old new action e h free ends = h ∙ e
held-none caller (Pin p) (Missed n) old new action e h free ends = h ∙ e
held-none caller (Unpin p (holders.Mapping handle)) x old new action e h free ends = h ∙ e
held-none caller (Unpin p (holders.Leg place)) x old new action e h free ends = cc
held-none caller (LookHeader d) x old new action e h free ends = h ∙ e
held-none caller (LookControl d q) x old new action e h free ends = h ∙ e
held-none caller (LookBody d q body_word) x old new action e h free ends = h ∙ e
held-none caller (StoreBody q body_word n) x old new action e h free ends = h ∙ e
held-none caller (StoreHeader version frames) x old new action e h free ends = h ∙ e
held-none caller (Exchange q looked change) x old new action e h free ends = h ∙ e
held-none caller (Read d frame off len) x old new action e h free ends = h ∙ e
held-none caller (Write d frame off len) x old new action e h free ends = h ∙ e
held-none caller (Copy from to len) x old new action e h free ends = h ∙ e

stands-so : (c : CallerKnowledge) (k : Layout) (caller : DomId) (request : OpenRequest) (v w : View) (s : Step) (x : Observation) (action : Action) → EndsSo caller s x action → Leaves c k caller request v w (effect_of s x) → StandsSo c k caller request v w (effect_of s x) action
stands-so c k caller request v w s x (actions.Step next) ends left = subst (λ (e : Effect). Leaves c k caller request v w e) ends left
stands-so c k caller request v w s x (Done verdict) ends left = (left, ends.0)

-- a call that is under way can make its step
pub makes-next : (c : CallerKnowledge) (k : Layout) (effect : Effect) (v w : View) (call : Call) (s : Step) → Knows c k call.caller v → WaitsForNobody call.request → Going c k effect v w call (actions.Step s) → CanMake k w s
makes-next c k effect v w call s knows waits g =
    subst (λ (u : View). CanMake k u s) (sym g.view)
    (can-make c k call.caller v knows call.request (pins_by_call call) g.steps s waits g.walked (subst (λ (u : View). IsSame v u) g.view g.stands) g.held g.rests)

pub same-call : (call call' : Call) → call'.caller ≡ call.caller → call'.request ≡ call.request → (record call { phase = call'.phase }) ≡ call'
same-call call call' callers requests =
    ap (λ (d : DomId). record { caller = d; request = call.request; phase = call'.phase }) (sym callers)
    ∙ ap (λ (a : OpenRequest). record { caller = call'.caller; request = a; phase = call'.phase }) (sym requests)

-- what a step of a call found is what its seat's step found
pub record Finds (k : Layout) (v : View) (step : SeatStep) (dom : DomId) (gref : GrantRef) (word : ℕ) : Type 0 where
  pub on : EntryStep
  pub is : step ≡ on_entry (position_in k.ids dom) gref.0 on
  pub found : found_by on ≡ Some word
  pub not_earlier : IsNotEarlier (position_in k.ids dom) gref.0 v word

at-entry : (k : Layout) (v : View) (step : SeatStep) (d dom : DomId) (q gref : GrantRef) (n word : ℕ) → Finds k v step d q n → (d ≡ dom) × (q ≡ gref) × (n ≡ word) → Finds k v step dom gref word
at-entry k v step d dom q gref n word f e =
    subst (λ (z : DomId). Finds k v step z gref word) e.0 (subst (λ (z : GrantRef). Finds k v step d z word) e.1 (subst (λ (z : ℕ). Finds k v step d q z) e.2 f))

by-owner : (k : Layout) (caller : DomId) (change : EntryChange) (q : GrantRef) (looked n : ℕ) (v : View) (dom : DomId) (gref : GrantRef) (word : ℕ) → v.position ≡ position_in k.ids caller → IsNotEarlier v.position q.0 v n
    → (caller ≡ dom) × (q ≡ gref) × (n ≡ word) → Finds k v (on_entry v.position q.0 (ChangeMissed change looked (changed_word change (last_of q.0 v) looked) n)) dom gref word
by-owner k caller change q looked n v dom gref word at low e =
    let on : EntryStep = ChangeMissed change looked (changed_word change (last_of q.0 v) looked) n in
    at-entry k v (on_entry v.position q.0 on) caller dom q gref n word
    (record { on = on; is = ap (λ (t : ℕ). on_entry t q.0 on) at; found = refl; not_earlier = subst (λ (t : ℕ). IsNotEarlier t q.0 v n) at low }) e

finds : (k : Layout) (caller : DomId) (s : Step) (x : Observation) (v w : View) (m : Made k s x v w) (dom : DomId) (gref : GrantRef) (word : ℕ) → v.position ≡ position_in k.ids caller → IsFoundAt caller s x dom gref word → Finds k v (made-gains k s x v w m).step.1 dom gref word
unfolding made-gains
finds k caller (LookControl d q) (Word n) v w m dom gref word at e =
    at-entry k v (on_entry (position_in k.ids d) q.0 (Looked n)) d dom q gref n word (record { on = Looked n; is = refl; found = refl; not_earlier = m.0.not_earlier }) e
finds k caller (Pin p) (Missed n) v w m dom gref word at e =
    let on : EntryStep = PinMissed p.dir p.word (p.word + unit_of p.dir) n in
    at-entry k v (on_entry (position_in k.ids p.dom) p.gref.0 on) p.dom dom p.gref gref n word (record { on = on; is = refl; found = refl; not_earlier = m.not_earlier }) e
finds k caller (Exchange q looked Revoke) (Missed n) v w m dom gref word at e = by-owner k caller Revoke q looked n v dom gref word at m.missed.not_earlier e
finds k caller (Exchange q looked Demote) (Missed n) v w m dom gref word at e = by-owner k caller Demote q looked n v dom gref word at m.not_earlier e
finds k caller (Exchange q looked Promote) (Missed n) v w m dom gref word at e = by-owner k caller Promote q looked n v dom gref word at m.not_earlier e
finds k caller (Exchange q looked (Publish entry)) (Missed n) v w m dom gref word at e = by-owner k caller (Publish entry) q looked n v dom gref word at m.missed.not_earlier e
finds k caller (Exchange q looked Withdraw) (Missed n) v w m dom gref word at e = by-owner k caller Withdraw q looked n v dom gref word at m.not_earlier e
finds k caller _ _ v w m dom gref word at e = absurd e

finds-header : (k : Layout) (s : Step) (x : Observation) (v w : View) (m : Made k s x v w) (dom : DomId) (word : ℕ) → IsFoundIn s x dom word → (made-gains k s x v w m).step.1 ≡ on_header (position_in k.ids dom) (header.Looked word)
unfolding made-gains
finds-header k (LookHeader d) (Word n) v w m dom word e = ap (λ (z : DomId). on_header (position_in k.ids z) (header.Looked n)) e.0 ∙ ap (λ (z : ℕ). on_header (position_in k.ids dom) (header.Looked z)) e.1
finds-header k _ _ v w m dom word e = absurd e

pub carried-facts : (k : Layout) (caller : DomId) (v u w : View) (s : Step) (x : Observation) (steps : List Moment) (m : Made k s x u w) (f : Facts) → SeesNoEarlier v u → u.position ≡ position_in k.ids caller → IsFound caller s x f → CarriesFound k v ((made-gains k s x u w m).step ∷ steps) f
carried-facts k caller v u w s x steps m (facts.Entry dom gref word) early at found =
    let f = finds k caller s x u w m dom gref word at found in
    let low = early (position_in k.ids dom) gref.0 in let high = f.not_earlier in
    record { step = f.on; taken = inl (sym f.is); found = f.found; not_earlier = omega (arith, low, high) }
carried-facts k caller v u w s x steps m (facts.Header dom word) early at found = inl (sym (finds-header k s x u w m dom word found))
carried-facts k caller v u w s x steps m facts.None early at found = tt
carried-facts k caller v u w s x steps m (facts.Policy source target perm) early at found = tt
carried-facts k caller v u w s x steps m (facts.Field field) early at found = tt

carried-verdict : (k : Layout) (caller : DomId) (v u w : View) (s : Step) (x : Observation) (steps : List Moment) (m : Made k s x u w) (verdict : CallResult) → IsSame v u → v.position ≡ position_in k.ids caller → ResultIsFound caller s x verdict
    → CarriesSteps k v ((made-gains k s x u w m).step ∷ steps) verdict
carried-verdict k caller v u w s x steps m (Refused denial) same at found = carried-facts k caller v u w s x steps m denial.facts same.seen (same.position ∙ at) found
carried-verdict k caller v u w s x steps m Granted same at found = tt
carried-verdict k caller v u w s x steps m (Given value) same at found = tt
carried-verdict k caller v u w s x steps m (Mapped p) same at found = tt

carried-so : (k : Layout) (caller : DomId) (v u w : View) (s : Step) (x : Observation) (steps : List Moment) (m : Made k s x u w) (action : Action) → IsSame v u → v.position ≡ position_in k.ids caller → EndsSo caller s x action
    → ActionCarries k v ((made-gains k s x u w m).step ∷ steps) action
carried-so k caller v u w s x steps m (actions.Step next) same at ends = tt
carried-so k caller v u w s x steps m (Done verdict) same at ends = carried-verdict k caller v u w s x steps m verdict same at ends.1

begins-tells : (k : Layout) (v : View) (o : Option Action) (action : Action) → BeginsSo o → o ≡ Some action → ActionCarries k v [] action
begins-tells k v None action b e = absurd b
begins-tells k v (Some (Done verdict)) action b e = absurd b
begins-tells k v (Some (actions.Step s)) action b e = let same : actions.Step s ≡ action = cc in subst (λ (a : Action). ActionCarries k v [] a) same tt

-- after a step that was made the call goes on, and has fewer to come
pub advance : (c : CallerKnowledge) (k : Layout) (effect : Effect) (v w w' : View) (call call' : Call) (action : Action) (s : Step) (x : Observation) → Knows c k call.caller v → WaitsForNobody call.request → Going c k effect v w call (actions.Step s) → Made k s x w w'
    → call'.caller ≡ call.caller → call'.request ≡ call.request → Goes c call x call' action → Going c k (effect_of s x) v w' call' action × (steps_to_come call' < steps_to_come call)
advance c k effect v w w' call call' action s x knows waits g m callers requests goes =
    let t = call.caller in let r = call.request in
    let fits : FitsNext (path c t r (all_shown g.steps)) x = subst (λ (o : Option Action). FitsNext o x) (sym g.goes) (made-fits k s x w w' m) in
    let on = goes.later (all_shown g.steps) g.at fits in
    let here : IsSame v (view_after g.steps v) = subst (λ (u : View). IsSame v u) g.view g.stands in
    let m1 : Made k s x (view_after g.steps v) w' = subst (λ (u : View). Made k s x u w') g.view m in
    let gain = made-gains k s x (view_after g.steps v) w' m1 in
    let view : w' ≡ view_after (gain.step ∷ g.steps) v = gain.view in
    let m2 : Made k s (shown_by gain.step) (view_after g.steps v) (view_after (gain.step ∷ g.steps) v) =
    subst (λ (u : View). Made k s (shown_by gain.step) (view_after g.steps v) u) view (subst (λ (y : Observation). Made k s y (view_after g.steps v) w') (sym gain.shows) m1) in
    let made : MakesStep k (path c t r (all_shown g.steps)) (shown_by gain.step) (view_after g.steps v) (view_after (gain.step ∷ g.steps) v) =
    subst (λ (o : Option Action). MakesStep k o (shown_by gain.step) (view_after g.steps v) (view_after (gain.step ∷ g.steps) v)) (sym g.goes) m2 in
    let ends : EndsSo t s x action = (path-sound t c r waits g.unanswered).ends (all_shown g.steps) s x action g.goes on.0.follows in
    let left : Leaves c k t r v w' (effect_of s x) = leaves c k t v knows r (pins_by_call call) g.steps s x w' waits g.walked here g.held g.rests m1 in
    let free = free-at-end c t r call' (all_shown g.steps ++ x ∷ []) action on.0.rests in
    let none : held_by_call call' ≡ [] = held-none t s x (held_by_call call) (held_by_call call') action g.held (on.1 (actions.Step s) g.goes) free ends in
    let same = same-call call call' callers requests in
    let going : Going c k (effect_of s x) v w' (record call { phase = call'.phase }) action =
    record {
      steps = gain.step ∷ g.steps;
      view = view;
      walked = (made, g.walked);
      at = subst (λ (z : Call). IsAt c z (all_shown g.steps ++ shown_by gain.step ∷ [])) (sym same) (subst (λ (y : Observation). IsAt c call' (all_shown g.steps ++ y ∷ [])) (sym gain.shows) on.0.at);
      goes = subst (λ (y : Observation). path c t r (all_shown g.steps ++ y ∷ []) ≡ Some action) (sym gain.shows) on.0.follows;
      rests = subst (λ (y : Observation). Rests c t r (pins_by_call call') (all_shown g.steps ++ y ∷ []) action) (sym gain.shows) on.0.rests;
      held = none;
      unanswered = g.unanswered;
      stands = stands-so c k t r v w' s x action ends left;
      carried = carried-so k t v (view_after g.steps v) w' s x g.steps m1 action here knows.stands ends;
    } in
    (subst (λ (z : Call). Going c k (effect_of s x) v w' z action) same going, on.2)

begins-so : (c : CallerKnowledge) (k : Layout) (caller : DomId) (request : OpenRequest) (v : View) (o : Option Action) (action : Action) → BeginsSo o → o ≡ Some action → StandsSo c k caller request v v Nothing action
begins-so c k caller request v None action b e = absurd b
begins-so c k caller request v (Some (Done verdict)) action b e = absurd b
begins-so c k caller request v (Some (actions.Step s)) action b e = let same : actions.Step s ≡ action = cc in subst (λ (a : Action). StandsSo c k caller request v v Nothing a) same (same-self v)

-- a call that was opened goes on from its first action
pub begins : (c : CallerKnowledge) (k : Layout) (v : View) (call call' : Call) (action : Action) → IsFreshCall c call → BeginsSo (path c call.caller call.request []) → call'.caller ≡ call.caller → call'.request ≡ call.request → Goes c call observations.Nothing call' action
    → Going c k Nothing v v call' action
begins c k v call call' action fresh makes callers requests goes =
    let on = goes.first fresh in
    let same = same-call call call' callers requests in
    let going : Going c k Nothing v v (record call { phase = call'.phase }) action =
    record {
      steps = [];
      view = refl;
      walked = tt;
      at = subst (λ (z : Call). IsAt c z []) (sym same) on.0.at;
      goes = on.0.follows;
      rests = on.0.rests;
      held = on.1;
      unanswered = fresh.unanswered;
      carried = begins-tells k v (path c call.caller call.request []) action makes on.0.follows;
      stands = begins-so c k call.caller call.request v (path c call.caller call.request []) action makes on.0.follows;
    } in
    subst (λ (z : Call). Going c k Nothing v v z action) same going

-- how a call ended
pub record Ended (c : CallerKnowledge) (k : Layout) (caller : DomId) (request : OpenRequest) (effect : Effect) (verdict : CallResult) (v w : View) : Type 0 where
  pub called : Called k (path c caller request) verdict v w
  pub left : Leaves c k caller request v w effect
  pub answers : Answers effect verdict × IsAnswerTo request verdict

pub ends : (c : CallerKnowledge) (k : Layout) (effect : Effect) (v w : View) (call : Call) (verdict : CallResult) (caller : DomId) (request : OpenRequest) → WaitsForNobody call.request → Going c k effect v w call (Done verdict) → call.caller ≡ caller → call.request ≡ request
    → Ended c k caller request effect verdict v w
ends c k effect v w call verdict caller request waits g callers requests =
    let answer : IsAnswerTo call.request verdict = (path-sound call.caller c call.request waits g.unanswered).answers (all_shown g.steps) verdict g.goes in
    let here : Ended c k call.caller call.request effect verdict v w =
    record { called = record { steps = g.steps; view = g.view; walked = g.walked; moments = walk-moments k (path c call.caller call.request) v g.steps g.walked; answered = g.goes; carried = g.carried }; left = g.stands.0; answers = (g.stands.1, answer) } in
    subst (λ (a : OpenRequest). Ended c k caller a effect verdict v w) requests (subst (λ (d : DomId). Ended c k d call.request effect verdict v w) callers here)
