-- An open call of a state goes on along that of the run.
use Rattle.std.proofs.Common.{◌≡◌, ◌<◌, ◌++◌, ℕ, refl, true, false, Bool, cond, List, [], ◌∷◌, map, Option, Some}
use Rattle.std.proofs.Common.{None, sym, ap, ◌∙◌, arith, subst}
use Rattle.std.specs.Option.{option_map}
use Rattle.std.specs.Prelude.{◌==◌}
use Rattle.std.proofs.lemmas.Bool.{eq-eqb, true≢false}
use Rattle.std.proofs.lemmas.List.{map-append}
use Rattle.std.proofs.lemmas.Option.{none-some}
use Rattle.gt_types.specs.declared.DomId.{DomId}
use Rattle.gt_model.specs.declared.handle.Handle.{Handle}
use Rattle.gt_model.specs.declared.action.Action.{Action}
use Rattle.gt_model.specs.declared.action.Action.TheVariants.{Done}
use Rattle.gt_model.specs.declared.action.Action.TheVariants as actions
use Rattle.gt_model.specs.declared.action.Observation.{Observation}
use Rattle.gt_model.specs.declared.action.Observation.TheVariants.{Missed, Taken}
use Rattle.gt_model.specs.declared.action.Step.{Step}
use Rattle.gt_model.specs.declared.action.Step.TheVariants.{Exchange, Unpin}
use Rattle.gt_model.specs.declared.action.Step.TheVariants as call_steps
use Rattle.gt_model.specs.declared.action.CallResult.{CallResult}
use Rattle.gt_calls.specs.declared.call.Call.{Call}
use Rattle.gt_calls.specs.declared.call.Phase.{Phase}
use Rattle.gt_model.specs.declared.held.HeldPin.{HeldPin}
use Rattle.gt_model.specs.declared.bounds.TheConstants.{SERIAL_LIMIT}
use Rattle.gt_model.specs.declared.request.OpenRequest.{OpenRequest}
use Rattle.gt_model.specs.declared.request.OpenRequest.TheVariants.{Unmap, Release, Load, Store}
use Rattle.gt_model.specs.declared.request.PinHolder.TheVariants as holders
use Rattle.gt_calls.specs.Following.{Advances, FitsNext, Goes, IsLeftAlike}
use Rattle.gt_model.specs.Path.{FitsStep, IsExchanged, path}
use Rattle.gt_model.specs.Rules.{CallerKnowledge}
use Rattle.gt_calls.specs.Standing.{IsAt}
use Rattle.gt_model.specs.History.{History, Setting, Underway, exchange_sees, known_at, mapping_of, mappings_at}
use Rattle.gt_model.specs.History.{maps_answered_at, seen_by, values}
use Rattle.gt_explore_moves.specs.Calls.{AsksByPlace, GoesAlong, SerialsRise, handles_at, known_by_place, known_in}
use Rattle.gt_explore_moves.specs.Calls.{no_mappings}
use Rattle.gt_explore_moves.specs.Placing.{pin_by_place}
use Rattle.gt_explore_moves.specs.Renaming.{FindsSame, action_under, step_under}
use Rattle.gt_explore_moves.specs.declared.actor.ActorCall.{ActorCall}
use Rattle.gt_explore_moves.proofs.CallBegins.{place-alike}
use Rattle.gt_explore_moves.proofs.MappingFound.{listed-at, mapping-listed}
use Rattle.gt_explore_moves.specs.Continuing.{IsGranting, SameKnown, GoesOnAsRun, StillKnows}
use Rattle.gt_explore_moves.proofs.LeftAlike.{left-alike}
use Rattle.gt_explore_moves.proofs.Renaming.{path-renamed}
use Rattle.gt_explore_moves.proofs.OthersStay.{same-by-place, same-handles}
use Rattle.gt_explore_moves.specs.declared.scene.SearchContext.{SearchContext}
use Rattle.gt_explore_state.specs.declared.table.SparseTable.{SparseTable}
use Rattle.gt_calls.specs.Machine.{settled}

-- what steps see

exchanged : (word looked : ℕ) → IsExchanged looked (exchange_sees word looked)
exchanged word looked = by (word == looked) refl where
  by : (b : Bool) → (word == looked) ≡ b → IsExchanged looked (cond b Taken (Missed word))
  by true e = tt
  by false e = λ same. true≢false (sym (eq-eqb word looked same) ∙ e)

fits-seen : (s : Setting) (h : History) (d : DomId) (z : Step) → FitsStep z (seen_by s h d z)
fits-seen s h d (call_steps.Pin p) = exchanged _ p.word
fits-seen s h d (Exchange gref looked change) = exchanged _ looked
fits-seen s h d z = grind arith

fits-under : (b : Handle) (z : Step) (seen : Observation) → FitsStep (step_under b z) seen → FitsStep z seen
fits-under b (Unpin p (holders.Mapping a)) seen f = f
fits-under b z seen f = f

under-fits : (b : Handle) (z : Step) (seen : Observation) → FitsStep z seen → FitsStep (step_under b z) seen
under-fits b (Unpin p (holders.Mapping a)) seen f = f
under-fits b z seen f = f

-- a step that is the same but for a handle sees what this one sees
pub fits-alike : (s : Setting) (h : History) (d : DomId) (b : Handle) (y z : Step) → step_under b y ≡ step_under b z → FitsStep y (seen_by s h d z)
fits-alike s h d b y z same = fits-under b y (seen_by s h d z) (subst (λ (x : Step). FitsStep x (seen_by s h d z)) (sym same) (under-fits b z (seen_by s h d z) (fits-seen s h d z)))

-- what is left to do of an open call

pub is-left : (k l : CallerKnowledge) (call : Call) (shown : List Observation) (seen : Observation) → IsAt k call shown → l.domains ≡ k.domains → l.may ≡ k.may
    → ((p : Phase) → call.phase ≡ Some p → IsGranting p → (l.entry ≡ k.entry) × (l.generation ≡ k.generation)) → IsLeftAlike k l call seen
is-left k l call shown seen at domains may own = by call.phase refl at where
  by : (o : Option Phase) → call.phase ≡ o → IsAt k (record call { phase = o }) shown → IsLeftAlike k l call seen
  by None e at = absurd at
  by (Some p) e at = subst (λ (o : Option Phase). IsLeftAlike k l (record call { phase = o }) seen) (sym e) (ap (settled call.request) (sym (left-alike k l call.caller p seen domains may (own p e))))

-- the path of the run

finds-place : (ms : List (Handle × HeldPin)) (place : Handle) (r : OpenRequest) (high : ℕ) → SerialsRise 0 (map (λ (m : Handle × HeldPin). m.0) ms) high → AsksByPlace (map (λ (m : Handle × HeldPin). m.0) ms) place r
    → FindsSame (pin_by_place (map (λ (m : Handle × HeldPin). m.1) ms)) place (mapping_of ms) r
finds-place ms place (Unmap a) high rise there = sym (mapping-listed ms a ∙ listed-at 0 ms high place.serial a rise there)
finds-place ms place (Release a) high rise there = sym (mapping-listed ms a ∙ listed-at 0 ms high place.serial a rise there)
finds-place ms place (Load a off len) high rise there = sym (mapping-listed ms a ∙ listed-at 0 ms high place.serial a rise there)
finds-place ms place (Store a off len) high rise there = sym (mapping-listed ms a ∙ listed-at 0 ms high place.serial a rise there)
finds-place ms place r high rise there = tt

same-steps : (b : Handle) (y z : Step) (o : Option Action) → o ≡ Some (actions.Step z) → option_map (action_under b) (Some (actions.Step y)) ≡ option_map (action_under b) o → step_under b y ≡ step_under b z
same-steps b y z o is e = let f : option_map (action_under b) (Some (actions.Step y)) ≡ option_map (action_under b) (Some (actions.Step z)) = e ∙ ap (option_map (action_under b)) is in cc

same-end : (b : Handle) (v : CallResult) (o : Option Action) → option_map (action_under b) (Some (Done v)) ≡ option_map (action_under b) o → o ≡ Some (Done v)
same-end b v o e = grind arith

step-there : (b : Handle) (y : Step) (o : Option Action) → option_map (action_under b) (Some (actions.Step y)) ≡ option_map (action_under b) o → (z : Step) × (o ≡ Some (actions.Step z))
step-there b y None e = absurd (none-some _ (sym e))
step-there b y (Some (actions.Step z)) e = (z, refl)
step-there b y (Some (Done v)) e = absurd (grind arith)

module _ (s : Setting) (h : History) (d : DomId) (c : Underway) (o : ActorCall) (along : GoesAlong s h d c o) (below : maps_answered_at h d.0 < SERIAL_LIMIT) (high : ℕ) (rising : SerialsRise 0 (handles_at h d) high) where
  abbrev kept : CallerKnowledge
  kept = known_by_place s h d

  same-next : (vs : List Observation) → option_map (action_under along.place) (path kept d o.call.request vs) ≡ option_map (action_under along.place) (path (known_at s h d) d c.request vs)
  same-next vs = ap (λ (r : OpenRequest). option_map (action_under along.place) (path kept d r vs)) along.asks
      ∙ path-renamed (known_at s h d) kept d along.place c.request vs (place-alike s h d below) (finds-place (mappings_at h d.0) along.place c.request high rising along.by_place)

  -- the step of the run is the same but for a handle
  pub run-makes : (z : Step) → path (known_at s h d) d c.request (values c) ≡ Some (actions.Step z) → step_under along.place o.step ≡ step_under along.place z
  run-makes z is = same-steps along.place o.step z (path (known_at s h d) d c.request (values c)) is (ap (option_map (action_under along.place)) (sym along.follows) ∙ same-next (values c))

  -- the run is about to make a step too
  pub run-at : (z : Step) × (path (known_at s h d) d c.request (values c) ≡ Some (actions.Step z))
  run-at = step-there along.place o.step _ (ap (option_map (action_under along.place)) (sym along.follows) ∙ same-next (values c))

  module _ (z : Step) (new : Call) (action : Action) (is : path (known_at s h d) d c.request (values c) ≡ Some (actions.Step z)) (goes : Goes kept o.call (seen_by s h d z) new action) where
    fits : FitsNext (path kept o.call.caller o.call.request (values c)) (seen_by s h d z)
    fits = subst (λ (a : Option Action). FitsNext a (seen_by s h d z)) (sym (ap (λ (x : DomId). path kept x o.call.request (values c)) along.caller ∙ along.follows))
        (fits-alike s h d along.place o.step z (run-makes z is))

    pub advances : Advances kept o.call new (values c ++ seen_by s h d z ∷ []) action
    advances = (goes.later (values c) along.at fits).0

    next-is : path kept d o.call.request (values c ++ seen_by s h d z ∷ []) ≡ Some action
    next-is = ap (λ (x : DomId). path kept x o.call.request (values c ++ seen_by s h d z ∷ [])) (sym along.caller) ∙ advances.follows

    -- the call of the run ends so too
    pub run-ends : (v : CallResult) → action ≡ Done v → path (known_at s h d) d c.request (values c ++ seen_by s h d z ∷ []) ≡ Some (Done v)
    run-ends v end = same-end along.place v _ (ap (λ (a : Action). option_map (action_under along.place) (Some a)) (sym end) ∙ ap (option_map (action_under along.place)) (sym next-is) ∙ same-next (values c ++ seen_by s h d z ∷ []))

    -- it goes on along it
    pub still-along : (g : History) (y : Step) → action ≡ actions.Step y → SameKnown s h g d → new.caller ≡ o.call.caller → new.request ≡ o.call.request
        → GoesAlong s g d (record c { steps = c.steps ++ (z, seen_by s h d z) ∷ [] }) (record { task = o.task; call = new; step = y })
    still-along g y makes same caller request = let shown : values c ++ seen_by s h d z ∷ [] ≡ values (record c { steps = c.steps ++ (z, seen_by s h d z) ∷ [] }) = sym (map-append (λ (p : Step × Observation). p.1) c.steps ((z, seen_by s h d z) ∷ [])) in record {
      caller = caller ∙ along.caller;
      place = along.place;
      asks = request ∙ along.asks;
      by_place = subst (λ (hs : List Handle). AsksByPlace hs along.place c.request) (sym (same-handles s h g d same)) along.by_place;
      at = subst (λ (k : CallerKnowledge). IsAt k new (values (record c { steps = c.steps ++ (z, seen_by s h d z) ∷ [] }))) (sym (same-by-place s h g d same)) (subst (IsAt kept new) shown advances.at);
      follows = subst (λ (k : CallerKnowledge). path k d new.request (values (record c { steps = c.steps ++ (z, seen_by s h d z) ∷ [] })) ≡ Some (actions.Step y)) (sym (same-by-place s h g d same))
          (subst (λ (vs : List Observation). path kept d new.request vs ≡ Some (actions.Step y)) shown
          (ap (λ (r : OpenRequest). path kept d r (values c ++ seen_by s h d z ∷ [])) request ∙ next-is ∙ ap (λ (a : Action). Some a) makes));
    }

-- after a step of the run the call goes on in the state as there
pub goes-on-as-run : (s : Setting) (h : History) (d : DomId) (c : Underway) (o : ActorCall) (z : Step) (seen : Observation) (scene : SearchContext) (t : SparseTable) (new : Call) (action : Action) → GoesAlong s h d c o → maps_answered_at h d.0 < SERIAL_LIMIT → SerialsRise 0 (handles_at h d) (maps_answered_at h d.0)
    → path (known_at s h d) d c.request (values c) ≡ Some (actions.Step z) → seen ≡ seen_by s h d z → StillKnows s h d scene t o.call → new.caller ≡ o.call.caller → new.request ≡ o.call.request
    → ((k : CallerKnowledge) → IsLeftAlike k (known_in scene t no_mappings) o.call seen → Goes k o.call seen new action) → GoesOnAsRun s h d c z o.task new action
goes-on-as-run s h d c o z seen scene t new action along below rising is saw still caller request goes =
    by action (subst (λ (v : Observation). Goes (known_by_place s h d) o.call v new action) saw
    (goes (known_by_place s h d) (is-left (known_by_place s h d) (known_in scene t no_mappings) o.call (values c) seen along.at still.domains still.may (λ p here storing. (still.entries p here storing, still.generations p here storing)))))
  where
    by : (x : Action) → Goes (known_by_place s h d) o.call (seen_by s h d z) new x → GoesOnAsRun s h d c z o.task new x
    by (actions.Step y) g = λ later same. still-along s h d c o along below (maps_answered_at h d.0) rising z new (actions.Step y) is g later y refl same caller request
    by (Done v) g = run-ends s h d c o along below (maps_answered_at h d.0) rising z new (Done v) is g v refl
