-- A step of an open call is right, and the core represents it.
use Rattle.gt_core.proofs.Words.{◌≡◌, ◌≢◌, ◌<◌, ◌+◌, ◌⊎◌, inl, inr, ℕ, suc, refl, true, List, [], ◌∷◌, ◌++◌, length}
use Rattle.gt_core.proofs.Words.{Option, Some, None, sym, ap, ◌∙◌, subst, reverse, arith, eqb-true, map-append}
use Rattle.gt_core.proofs.Words.{length-append, length-reverse, reverse_onto, none-some, same_Some, ◌==◌, All, DomId}
use Rattle.gt_core.proofs.Words.{GrantRef, Denial, EntryChange, HeldPin, CallPins, OpenRequest, Observation, Nothing}
use Rattle.gt_core.proofs.Words.{Taken, Missed, CallResult, Granted, Step, Unpin, StoreBody, StoreHeader, Exchange}
use Rattle.gt_core.proofs.Words.{Action, Done, Call, Phase, Ending, last_first, no_pins, CallerKnowledge, knowledge_of}
use Rattle.gt_core.proofs.Words.{path, Rests, phase_after, action_at, next_to_give, StandsAt, pins_at, held_in, Goes}
use Rattle.gt_core.proofs.Words.{GoesOnWith, steps_left, OpenCall, Answer, State, state_of, sees, History, Setting, Pin}
use Rattle.gt_core.proofs.Words.{entry_at, word_at, known_at, legs_at, seen_by, Underway, values, open_call}
use Rattle.gt_core.proofs.Words.{underway_after, holder_after, one_if_mapped, StepsSoFar, StepsRight, Justified, IsSafe}
use Rattle.gt_core.proofs.Words.{PinIsSound, AnsweredBy, GivesValue, LeavesAll, gives_back, verdict_in, refusal_in}
use Rattle.gt_core.proofs.Words.{refusal_of, refusal_if, option_or, first_of_item, first_in_call, stood, most_steps}
use Rattle.gt_core.proofs.Words.{DomainsStand, StateStands, OpenAgrees, GivenAgrees, FitsGiven, PhaseStands, IsClean}
use Rattle.gt_core.proofs.Words.{phase_refusal, numbered, exchange_sees, gather, by_leg, reverse-append, FitsNext}
use Rattle.gt_core.proofs.Words.{HoldsAfter, cond_both, IsLegalHistory}
use Rattle.gt_model.specs.declared.action.Action.TheVariants as actions
use Rattle.gt_model.specs.declared.action.Step.TheVariants as call_steps
use Rattle.gt_model.specs.declared.request.PinHolder.TheVariants as holders
use Rattle.gt_model.specs.declared.action.CallResult.TheVariants as results
use Rattle.gt_model.proofs.Observers.{unstored, known-as, kept-entry, kept-raises, kept-known, kept-legs, kept-table}
use Rattle.gt_model.proofs.Observers.{answered-stays, stepped, unpins, pins, exchanged-live}
use Rattle.gt_core.proofs.{AgreementKept.known-same, AgreementKept.open_call-own, AgreementKept.stood-own}
use Rattle.gt_core.proofs.{CallsStand.place-stays, Phases.IsHere, Phases.seen-fits, Phases.by-giving, Phases.call-is}
use Rattle.gt_core.proofs.{Steps.See.sees-agree, Steps.Unpin.leg-left, Steps.Unpin.leg-mappings}
use Rattle.gt_core.proofs.{Steps.Unpin.mapping-legs, Steps.Unpin.from-zero, Steps.Pin.leg-grows, Steps.Pin.leg-maps}
use Rattle.gt_core.proofs.{Steps.Exchange.can-change, Steps.Pin.can-pin, Steps.Store.store-invalid}
use Rattle.gt_core.proofs.{Steps.Access.read-justified, Steps.Access.write-justified, Steps.Access.copy-justified}
use Rattle.gt_core.proofs.{Phases.next_of, Outcomes.IsSingle, Outcomes.single-ends, Steps.Exchange.taken-ends}
use Rattle.gt_core.proofs.{Outcomes.clean-next, Outcomes.ends-so, EachStep.each-step, EachStep.OfStep}
use Rattle.gt_core.proofs.{Steps.Store.by-storing, Steps.Store.StoreLeads, Steps.Store.first-leads}
use Rattle.gt_core.proofs.{Steps.Store.second-leads}
use Rattle.gt_calls.specs.Following.{Advances}
use Rattle.gt_calls.specs.Machine.{settled}
use Rattle.gt_core.proofs.Probes.{done-settled, ends-settled, settled-clean, settled-place, settled-refusal}

-- a call in this phase
abbrev pub call_at : DomId → OpenRequest → Phase → Call
call_at d r phase = record { caller = d; request = r; phase = Some phase }

-- what is known of a step of an open call, which saw what the history left
pub record Ticks (s : Setting) (h : History) (xs : List State) (x : State) (o : OpenCall) (c : Underway) (new : Call) (action : Action) : Type 0 where
  pub here : state_of xs x.id.0 ≡ Some x
  pub agrees : StateStands s h x
  pub call : open_call h x.id.0 ≡ Some c
  pub stands : OpenAgrees s h x.id o c
  pub i : IsHere s h xs x.id c.request (values c) (reverse c.steps) stands.phase o.step
  pub new_is : new ≡ call_at x.id c.request (settled c.request (next_of s h x.id stands.phase o.step))
  pub on : Advances (known_at s h x.id) (call_at x.id c.request stands.phase) (call_at x.id c.request (settled c.request (next_of s h x.id stands.phase o.step))) (values c ++ seen_by s h x.id o.step ∷ []) action
  pub fewer : steps_left (settled c.request (next_of s h x.id stands.phase o.step)) < steps_left stands.phase
  pub acts : action ≡ action_at x.id (settled c.request (next_of s h x.id stands.phase o.step))
  pub holds : HoldsAfter o.step (seen_by s h x.id o.step) (held_in stands.phase) (held_in (settled c.request (next_of s h x.id stands.phase o.step))) action

pub ticks : (s : Setting) (h : History) (xs : List State) (x : State) (o : OpenCall) (c : Underway) (seen : Observation) (new : Call) (action : Action) → IsLegalHistory s h → DomainsStand s h xs → state_of xs x.id.0 ≡ Some x → StateStands s h x → open_call h x.id.0 ≡ Some c
    → OpenAgrees s h x.id o c → seen ≡ sees xs x.id o.step → new.caller ≡ o.call.caller → new.request ≡ o.call.request
    → Goes (knowledge_of s.domains s.first_generation s.may x.own x.header x.mappings) o.call seen new action → (seen ≡ seen_by s h x.id o.step) × Ticks s h xs x o c new action
ticks s h xs x o c seen new action legal st here agrees call a saw caller asks goes = let k = known_at s h x.id in
    let i : IsHere s h xs x.id c.request (values c) (reverse c.steps) a.phase o.step =
    record { legal = legal; st = st; own = λ e. none-some x (sym e ∙ here); at = a.at; acts = a.acts; place = a.place; held = a.held; rests = a.rests; fits = a.fits } in
    let each = each-step s h xs x.id c.request (values c) (reverse c.steps) a.phase o.step i in let step = o.step in
    let same : seen ≡ seen_by s h x.id step = saw ∙ sees-agree s h xs x.id step st each.0 in
    let next = settled c.request (next_of s h x.id a.phase step) in let old : Call = call_at x.id c.request a.phase in
    let g : Goes k old (seen_by s h x.id step) new action =
    subst (λ (z : Call). Goes k z (seen_by s h x.id step) new action) (call-is o.call x.id c.request a.phase a.caller a.asks a.here)
    (subst (λ (z : CallerKnowledge). Goes z o.call (seen_by s h x.id step) new action) (known-same s h x agrees)
    (subst (λ (v : Observation). Goes (knowledge_of s.domains s.first_generation s.may x.own x.header x.mappings) o.call v new action) same goes)) in
    let moved : new ≡ call_at x.id c.request next = call-is new x.id c.request next (caller ∙ a.caller) (asks ∙ a.asks) g.moves in
    let fits : FitsNext (path k x.id c.request (values c)) (seen_by s h x.id step) = subst (λ (z : Option Action). FitsNext z (seen_by s h x.id step)) (sym a.follows) (seen-fits s h x.id step) in
    let g2 : Goes k old (seen_by s h x.id step) (call_at x.id c.request next) action = subst (λ (z : Call). Goes k old (seen_by s h x.id step) z action) moved g in
    let l = g2.later (values c) a.at fits in
    (same, record { here = here; agrees = agrees; call = call; stands = a; i = i; new_is = moved; on = l.0; fewer = l.2; acts = g.acts; holds = l.1 (actions.Step step) a.follows })

-- the call with one more step

pub given-goes-on : (d : DomId) (step : Step) (seen : Observation) (answer : Option Answer) (h : History) (given : List ℕ) → GivenAgrees h d.0 given → GivenAgrees (stepped d step seen answer ∷ h) d.0 given
given-goes-on d step seen answer h given a = λ c call. by answer (open_call h d.0) refl c (sym (open_call-own (stepped d step seen answer) h) ∙ call)
  where
    by : (answer : Option Answer) (u : Option Underway) → open_call h d.0 ≡ u → (c : Underway) → underway_after (stepped d step seen answer) u ≡ Some c → (given ≡ c.given) × FitsGiven c.request c.given
    by None (Some b) is c e = subst (λ (z : Underway). (given ≡ z.given) × FitsGiven z.request z.given) (same_Some _ _ e) (a b is)
    by answer u is c e = absurd (none-some c e)

taken-word : (word looked : ℕ) → exchange_sees word looked ≡ Taken → word ≡ looked
taken-word word looked e = cond_both (word == looked) Taken (Missed word) (λ z. z ≡ Taken → word ≡ looked) (λ is f. eqb-true word looked is) (λ is f. cc) e

numbered-push : (n : ℕ) (ps : List HeldPin) (p : HeldPin) → numbered n (ps ++ p ∷ []) ≡ numbered n ps ++ (n + length ps, p) ∷ []
numbered-push n [] p = let e : n ≡ n + 0 = omega arith in ap (λ (m : ℕ). (m, p) ∷ []) e
numbered-push n (q ∷ ps) p = ap (λ (l : List (ℕ × HeldPin)). (n, q) ∷ l) (numbered-push (n + 1) ps p)
    ∙ (let e : n + 1 + length ps ≡ n + suc (length ps) = omega arith in ap (λ (m : ℕ). (n, q) ∷ numbered (n + 1) ps ++ (m, p) ∷ []) e)

length-numbered : (n : ℕ) (ps : List HeldPin) → length (numbered n ps) ≡ length ps
length-numbered n [] = refl
length-numbered n (p ∷ ps) = let e = length-numbered (n + 1) ps in omega arith

-- the pin that is taken is on the present entry
abbrev PinFact : History → Step → Observation → Type 0
PinFact h step seen = (p : HeldPin) → step ≡ call_steps.Pin p → seen ≡ Taken → record p { entry = entry_at h p.dom.0 p.gref.0 } ≡ p

-- the pin that is released is the last one held
abbrev pub LastFact : List HeldPin → Step → Type 0
LastFact old step = (p : HeldPin) (place : ℕ) → step ≡ Unpin p (holders.Leg place) → (others : List HeldPin) × (old ≡ p ∷ others) × (place ≡ length others)

legs-by : (h : History) (d : DomId) (answer : Option Answer) (old new : List HeldPin) (action : Action) (step : Step) (seen : Observation) → one_if_mapped answer ≡ 0 → ((n : ℕ) → holder_after answer n ≡ holders.Leg n) → ((m : HeldPin) → action ≡ Done (results.Mapped m) → ⊥)
    → legs_at h d.0 ≡ numbered 0 (reverse old) → HoldsAfter step seen old new action → PinFact h step seen → LastFact old step → legs_at (stepped d step seen answer ∷ h) d.0 ≡ numbered 0 (reverse new)
legs-by h d answer old new action step seen m leg unmapped held holds pinned last = by step seen holds pinned last where
  pin : (p : HeldPin) → (new ≡ p ∷ old) ⊎ ((action ≡ Done (results.Mapped p)) × (new ≡ old)) → record p { entry = entry_at h p.dom.0 p.gref.0 } ≡ p → legs_at (pins d p answer ∷ h) d.0 ≡ numbered 0 (reverse new)
  pin p (inr b) is = absurd (unmapped p b.0)
  pin p (inl b) is =
      let n : length (legs_at h d.0) ≡ 0 + length (reverse old) = ap (λ (l : List (ℕ × HeldPin)). length l) held ∙ length-numbered 0 (reverse old) ∙ sym (from-zero (length (reverse old))) in
      leg-grows h d p answer (leg (length (legs_at h d.0))) ∙ ap (λ (q : HeldPin). legs_at h d.0 ++ (length (legs_at h d.0), q) ∷ []) is ∙ ap (λ (k : ℕ). legs_at h d.0 ++ (k, p) ∷ []) n
      ∙ ap (λ (l : List (ℕ × HeldPin)). l ++ (0 + length (reverse old), p) ∷ []) held
      ∙ sym (numbered-push 0 (reverse old) p) ∙ ap (numbered 0) (sym (reverse_onto old p [])) ∙ ap (λ (l : List HeldPin). numbered 0 (reverse l)) (sym b)

  give : (p : HeldPin) (place : ℕ) (v : Observation) → old ≡ p ∷ new → (others : List HeldPin) × (old ≡ p ∷ others) × (place ≡ length others) → legs_at (unpins d p (holders.Leg place) v answer ∷ h) d.0 ≡ numbered 0 (reverse new)
  give p place v e (others, is, at) = let same : others ≡ new = cc in
      let legs : legs_at h d.0 ≡ numbered 0 (reverse new ++ p ∷ []) = held ∙ ap (λ (l : List HeldPin). numbered 0 (reverse l)) e ∙ ap (numbered 0) (reverse_onto new p []) in
      ap (λ (k : ℕ). legs_at (unpins d p (holders.Leg k) v answer ∷ h) d.0) (at ∙ ap (λ (l : List HeldPin). length l) same ∙ sym (length-reverse new)) ∙ leg-left h d (reverse new) p v answer legs

  by : (z : Step) (v : Observation) → HoldsAfter z v old new action → PinFact h z v → LastFact old z → legs_at (stepped d z v answer ∷ h) d.0 ≡ numbered 0 (reverse new)
  by (call_steps.Pin p) Taken e f g = pin p e (f p refl refl)
  by (Unpin p (holders.Leg place)) v e f g = give p place v e (g p place refl)
  by (Unpin p (holders.Mapping handle)) v e f g = mapping-legs h d p handle v answer ∙ rw e held
  by (Exchange gref looked change) Taken e f g = ap (λ (ps : List Pin). gather by_leg d.0 ps) (exchanged-live h d gref looked change answer) ∙ rw e held
  by z v e f g = kept-legs (stepped d z v answer) h d.0 (record { changes = λ r. refl; pins = λ before ps. refl; unpins = λ pins. refl; maps = m }) ∙ rw e held

-- what the domain knows stays if its call continues
known-by : (s : Setting) (h : History) (d : DomId) (step : Step) (seen : Observation) → (IsSingle step → ⊥) → ((gref : GrantRef) (looked : ℕ) (change : EntryChange) → step ≡ Exchange gref looked change → seen ≡ Taken → ⊥)
    → known_at s (stepped d step seen None ∷ h) d ≡ known_at s h d
known-by s h d (call_steps.Pin p) Taken single exchange = let i = pins d p None in
    known-as s h (i ∷ h) d (λ r. kept-entry i h d.0 r (λ r. refl)) (λ r. kept-raises i h d.0 r (λ r. refl)) (kept-table s i h d refl) (leg-maps h d p None refl) (answered-stays h i d.0 refl)
known-by s h d (Unpin p (holders.Leg place)) v single exchange = let i = unpins d p (holders.Leg place) v None in
    known-as s h (i ∷ h) d (λ r. kept-entry i h d.0 r (λ r. refl)) (λ r. kept-raises i h d.0 r (λ r. refl)) (kept-table s i h d refl) (leg-mappings h d p place v None) (answered-stays h i d.0 refl)
known-by s h d (Unpin p (holders.Mapping handle)) v single exchange = absurd (single tt)
known-by s h d (StoreHeader version frames) v single exchange = absurd (single tt)
known-by s h d (Exchange gref looked change) Taken single exchange = absurd (exchange gref looked change refl refl)
known-by s h d z v single exchange = kept-known s (stepped d z v None) h d (record { changes = λ r. refl; pins = λ before ps. refl; unpins = λ pins. refl; maps = refl }) refl

goes-not : (d : DomId) (z : Step) (p : Phase) (pins : CallPins) (v : CallResult) → last_first pins ≡ [] → actions.Step z ≡ action_at d p → p ≡ Ending pins v → ⊥
goes-not d z p pins v none e is = let f : actions.Step z ≡ Done v = e ∙ ap (action_at d) is ∙ ap (λ (l : List HeldPin). next_to_give l v) none in cc

-- a step of a call, which saw what the history left
module _ {s : Setting} {h : History} {xs : List State} {x : State} {o : OpenCall} {c : Underway} {new : Call} {action : Action} (t : Ticks s h xs x o c new action) where
  abbrev pub seen_in : Observation
  seen_in = seen_by s h x.id o.step

  abbrev pub phase_then : Phase
  phase_then = settled c.request (next_of s h x.id t.stands.phase o.step)

  -- the history with it
  abbrev pub history_then : Option Answer → History
  history_then answer = stepped x.id o.step seen_in answer ∷ h

  each : OfStep s h xs x.id c.request (reverse c.steps) t.stands.phase o.step
  each = each-step s h xs x.id c.request (values c) (reverse c.steps) t.stands.phase o.step t.i

  -- the first rule that applied in the call, up to this step
  pub stood-after : (answer : Option Answer) → stood s (history_then answer) x.id.0 ≡ phase_refusal phase_then
  stood-after answer = let i = stepped x.id o.step seen_in answer in
      stood-own s i h ∙ ap (λ (z : Option Denial). option_or z (first_of_item s h i)) t.stands.fair
      ∙ ap (λ (u : Option Underway). option_or (phase_refusal t.stands.phase) (first_in_call s h x.id i.happened u)) t.call ∙ each.2
      ∙ sym (settled-refusal c.request (next_of s h x.id t.stands.phase o.step))

  pin-fact : PinFact h o.step seen_in
  pin-fact p is saw = let i = subst (IsHere s h xs x.id c.request (values c) (reverse c.steps) t.stands.phase) is t.i in
      (can-pin s h xs x.id c.request (values c) (reverse c.steps) t.stands.phase p i (taken-word (word_at s h p.dom.0 p.gref.0) p.word (subst (λ (z : Step). seen_by s h x.id z ≡ Taken) is saw))).is

  pub last-fact : LastFact (held_in t.stands.phase) o.step
  last-fact p place is = let r = (subst (λ (z : Step). Rests (known_at s h x.id) x.id c.request (pins_at t.stands.phase) (values c) (actions.Step z)) is t.stands.rests).1 in
      (r.others, r.held, r.place_is)

  -- the pins that the call then holds are those of its next phase
  pub legs-after : (answer : Option Answer) → one_if_mapped answer ≡ 0 → ((n : ℕ) → holder_after answer n ≡ holders.Leg n) → ((m : HeldPin) → action ≡ Done (results.Mapped m) → ⊥) → legs_at (history_then answer) x.id.0 ≡ numbered 0 (reverse (held_in phase_then))
  legs-after answer m leg unmapped = legs-by h x.id answer (held_in t.stands.phase) (held_in phase_then) action o.step seen_in m leg unmapped t.stands.held t.holds pin-fact last-fact

  place-after : PhaseStands s (history_then None) x.id c.request ((o.step, seen_in) ∷ reverse c.steps) phase_then
  place-after = settled-place s (history_then None) x.id c.request ((o.step, seen_in) ∷ reverse c.steps) (next_of s h x.id t.stands.phase o.step) (by o.step refl) where
    k : CallerKnowledge
    k = known_at s h x.id

    by : (step : Step) → o.step ≡ step → PhaseStands s (stepped x.id step (seen_by s h x.id step) None ∷ h) x.id c.request ((step, seen_by s h x.id step) ∷ reverse c.steps) (next_of s h x.id t.stands.phase step)
    by (StoreBody gref body_word word) is = let now : StepsSoFar = (StoreBody gref body_word word, Nothing) ∷ reverse c.steps in
        by-storing s h x.id c.request (path k x.id c.request) (values c) (StoreLeads s h x.id c.request (values c) (reverse c.steps) now)
        (first-leads s h x.id c.request (values c) (reverse c.steps) now) (second-leads s h x.id c.request (values c) (reverse c.steps) now) t.stands.phase
        (StoreBody gref body_word word) t.stands.at.has_shown (t.stands.acts ∙ ap actions.Step is) tt t.stands.at.has_shown t.stands.place
    by step is = place-stays s (stepped x.id step (seen_by s h x.id step) None) h x.id c.request ((step, seen_by s h x.id step) ∷ reverse c.steps) (next_of s h x.id t.stands.phase step)
        (λ r which. unstored (stepped x.id step (seen_by s h x.id step) None) h x.id.0 r which refl) ((subst (OfStep s h xs x.id c.request (reverse c.steps) t.stands.phase) is each).3 (λ n. n))

-- the phase that the step leads to ends a call that ends
pub done-from : {s : Setting} {h : History} {xs : List State} {x : State} {o : OpenCall} {c : Underway} {new : Call} {action : Action} (t : Ticks s h xs x o c new action) (v : CallResult) → action ≡ Done v
    → action_at x.id (next_of s h x.id t.stands.phase o.step) ≡ Done v
done-from {s} {h} {xs} {x} {o} {c} {new} {action} t v e =
    let holds : HoldsAfter o.step (seen_by s h x.id o.step) (held_in t.stands.phase) (held_in (settled c.request (next_of s h x.id t.stands.phase o.step))) (Done v) =
    subst (λ (a : Action). HoldsAfter o.step (seen_by s h x.id o.step) (held_in t.stands.phase) (held_in (settled c.request (next_of s h x.id t.stands.phase o.step))) a) e t.holds in
    sym (done-settled (known_at s h x.id) x.id c.request t.stands.phase (seen_by s h x.id o.step) o.step (held_in t.stands.phase) v t.stands.at.may_be t.stands.acts holds (sym e ∙ t.acts))

pub done-next : {s : Setting} {h : History} {xs : List State} {x : State} {o : OpenCall} {c : Underway} {new : Call} {v : CallResult} (t : Ticks s h xs x o c new (Done v))
    → action_at x.id (next_of s h x.id t.stands.phase o.step) ≡ Done v
done-next {s} {h} {xs} {x} {o} {c} {new} {v} t = done-from t v refl

-- a call that continues
module _ {s : Setting} {h : History} {xs : List State} {x : State} {o : OpenCall} {c : Underway} {new : Call} {z : Step} (t : Ticks s h xs x o c new (actions.Step z)) where
  known-after : known_at s (history_then t None) x.id ≡ known_at s h x.id
  known-after = known-by s h x.id o.step (seen_in t)
      (λ single. let e = single-ends s h x.id c.request (reverse c.steps) t.stands.phase o.step t.stands.acts t.stands.place single in goes-not x.id z _ no_pins e.0 refl t.acts (ends-settled c.request _ no_pins e.0 e.1))
      (λ gref looked change is saw.
      let e = taken-ends (known_at s h x.id) (path (known_at s h x.id) x.id c.request) x.id c.request (values c) t.stands.phase gref looked change t.stands.at.has_shown (t.stands.acts ∙ ap actions.Step is) in
      goes-not x.id z _ no_pins Granted refl t.acts (ends-settled c.request _ no_pins Granted (ap (phase_after (known_at s h x.id) x.id t.stands.phase) saw ∙ e)))

  -- it has the phase that this step led to
  pub open-after : OpenAgrees s (history_then t None) x.id (record { call = new; step = z }) (record { request = c.request; given = c.given; steps = c.steps ++ (o.step, seen_in t) ∷ [] })
  open-after = let u : Underway = record { request = c.request; given = c.given; steps = c.steps ++ (o.step, seen_in t) ∷ [] } in
      let shown : values c ++ seen_in t ∷ [] ≡ values u = sym (map-append (λ (p : Step × Observation). p.1) c.steps ((o.step, seen_in t) ∷ [])) in
      let longer : length (c.steps ++ (o.step, seen_in t) ∷ []) ≡ length c.steps + 1 = length-append c.steps ((o.step, seen_in t) ∷ []) in
      let few = t.stands.few in let fewer = t.fewer in record {
        caller = ap (λ (z : Call). z.caller) t.new_is;
        asks = ap (λ (z : Call). z.request) t.new_is;
        phase = phase_then t;
        here = ap (λ (z : Call). z.phase) t.new_is;
        at = subst (λ (k : CallerKnowledge). StandsAt k x.id c.request (values u) (phase_then t)) (sym known-after) (subst (λ (vs : List Observation). StandsAt (known_at s h x.id) x.id c.request vs (phase_then t)) shown t.on.at);
        acts = sym t.acts;
        follows = subst (λ (k : CallerKnowledge). GoesOnWith k x.id c.request (values u) (actions.Step z)) (sym known-after) (subst (λ (vs : List Observation). GoesOnWith (known_at s h x.id) x.id c.request vs (actions.Step z)) shown t.on.follows);
        rests = subst (λ (k : CallerKnowledge). Rests k x.id c.request (pins_at (phase_then t)) (values u) (actions.Step z)) (sym known-after)
            (subst (λ (vs : List Observation). Rests (known_at s h x.id) x.id c.request (pins_at (phase_then t)) vs (actions.Step z)) shown t.on.rests);
        place = subst (λ (so_far : StepsSoFar). PhaseStands s (history_then t None) x.id c.request so_far (phase_then t)) (sym (reverse-append c.steps ((o.step, seen_in t) ∷ []))) (place-after t);
        fair = stood-after t None;
        fits = t.stands.fits;
        clean = settled-clean c.request (next_of s h x.id t.stands.phase o.step) (c.steps ++ (o.step, seen_in t) ∷ [])
            (clean-next s h x.id t.stands.phase o.step c.steps t.stands.acts (each t).1 t.stands.clean);
        held = legs-after t None refl (λ n. refl) (λ m e. cc);
        few = (omega arith);
      }

-- a step is right

module _ (s : Setting) (h : History) (xs : List State) (d : DomId) (r : OpenRequest) (shown : List Observation) (so_far : StepsSoFar) (phase : Phase) where
  step-justified : (step : Step) → IsHere s h xs d r shown so_far phase step → Justified s h d r step
  step-justified (call_steps.Read dom frame off len) i = read-justified s h xs d r dom frame off len i.st i.rests.0 i.rests.1
  step-justified (call_steps.Write dom frame off len) i = write-justified s h xs d r dom frame off len i.st i.rests.0 i.rests.1
  step-justified (call_steps.Copy from to len) i = copy-justified s h d r (pins_at phase) from to len i.rests.0 i.held i.rests.1
  step-justified (Unpin p (holders.Mapping handle)) i = i.rests.1.0
  step-justified step i = tt

  step-safe : (step : Step) (answer : Option Answer) → IsHere s h xs d r shown so_far phase step → IsSafe s h (stepped d step (seen_by s h d step) answer)
  step-safe (Exchange gref looked change) answer i =
      cond_both (word_at s h d.0 gref.0 == looked) Taken (Missed (word_at s h d.0 gref.0)) (λ v. IsSafe s h (stepped d (Exchange gref looked change) v answer))
      (λ is. (can-change s h xs d r shown so_far phase gref looked change i (eqb-true (word_at s h d.0 gref.0) looked is)).safe) (λ is. tt)
  step-safe (StoreBody gref body_word word) answer i = store-invalid s h d r gref body_word word i.rests.0 i.rests.1
  step-safe (call_steps.Pin p) answer i =
      cond_both (word_at s h p.dom.0 p.gref.0 == p.word) Taken (Missed (word_at s h p.dom.0 p.gref.0)) (λ v. IsSafe s h (stepped d (call_steps.Pin p) v answer)) (λ is. tt) (λ is. tt)
  step-safe step answer i = tt

  step-sound : (step : Step) → IsHere s h xs d r shown so_far phase step → PinIsSound s h d r step (seen_by s h d step)
  step-sound (call_steps.Pin p) i = cond_both (word_at s h p.dom.0 p.gref.0 == p.word) Taken (Missed (word_at s h p.dom.0 p.gref.0)) (PinIsSound s h d r (call_steps.Pin p))
      (λ is. (can-pin s h xs d r shown so_far phase p i (eqb-true (word_at s h p.dom.0 p.gref.0) p.word is)).sound) (λ is. tt)
  step-sound step i = tt

-- a call that continues releases pins, or no rule has applied to it
goes-fair : (d : DomId) (p : Phase) (z : Step) → action_at d p ≡ actions.Step z → (phase_refusal p ≡ None) ⊎ (gives_back (Some (actions.Step z)) ≡ true)
goes-fair d (Ending pins verdict) z e = inr (by-giving (λ (y : Step). gives_back (Some (actions.Step y)) ≡ true) (λ p n. refl) (last_first pins) verdict z e)
goes-fair d p z e = inl refl

module _ {s : Setting} {h : History} {xs : List State} {x : State} {o : OpenCall} {c : Underway} {new : Call} {action : Action} (t : Ticks s h xs x o c new action) where
  right : (answer : Option Answer) → (answer ≡ None → length c.steps + 1 < most_steps c.request) → (refusal_if answer ≢ None → All LeavesAll (c.steps ++ (o.step, seen_in t) ∷ []) × (legs_at (history_then t answer) x.id.0 ≡ []))
      → AnsweredBy s h x.id c.request (Some o.step) (gives_back (Some action)) (verdict_in (Some action)) answer (stood s (history_then t answer) x.id.0) → StepsRight s h (stepped x.id o.step (seen_in t) answer) o.step (seen_in t) c
  right answer soon left answered = record {
    continues = t.stands.follows;
    sees = refl;
    justified = step-justified s h xs x.id c.request (values c) (reverse c.steps) t.stands.phase o.step t.i;
    safe = step-safe s h xs x.id c.request (values c) (reverse c.steps) t.stands.phase o.step answer t.i;
    sound = step-sound s h xs x.id c.request (values c) (reverse c.steps) t.stands.phase o.step t.i;
    soon = soon;
    left = left;
    answered = subst (λ (a : Option Action). AnsweredBy s h x.id c.request (Some o.step) (gives_back a) (verdict_in a) answer (stood s (history_then t answer) x.id.0)) (sym t.on.follows) answered;
  }

pub goes-right : {s : Setting} {h : History} {xs : List State} {x : State} {o : OpenCall} {c : Underway} {new : Call} {z : Step} (t : Ticks s h xs x o c new (actions.Step z)) → StepsRight s h (stepped x.id o.step (seen_in t) None) o.step (seen_in t) c
goes-right {s} {h} {xs} {x} {o} {c} {new} {z} t = let few = t.stands.few in let fewer = t.fewer in let counted = t.on.counted in
    right t None (λ none. (omega arith)) (λ some. absurd (some refl)) (fair (goes-fair x.id (phase_then t) z (sym t.acts))) where
      fair : (phase_refusal (phase_then t) ≡ None) ⊎ (gives_back (Some (actions.Step z)) ≡ true) → (stood s (history_then t None) x.id.0 ≡ None) ⊎ (gives_back (Some (actions.Step z)) ≡ true)
      fair (inl e) = inl (stood-after t None ∙ e)
      fair (inr e) = inr e

-- a call that is answered
pub ends-right : {s : Setting} {h : History} {xs : List State} {x : State} {o : OpenCall} {c : Underway} {new : Call} {v : CallResult} (t : Ticks s h xs x o c new (Done v)) (answer : Answer) → refusal_of answer ≡ refusal_in (Some v)
    → legs_at (history_then t (Some answer)) x.id.0 ≡ [] → GivesValue s h x.id c.request (Some o.step) answer → StepsRight s h (stepped x.id o.step (seen_in t) (Some answer)) o.step (seen_in t) c
ends-right {s} {h} {xs} {x} {o} {c} {new} {v} t answer same legs value = let e = ends-so x.id (phase_then t) v (sym t.acts) in
    let clean : IsClean (Ending e.0 v) (c.steps ++ (o.step, seen_in t) ∷ []) =
    subst (λ (p : Phase). IsClean p (c.steps ++ (o.step, seen_in t) ∷ [])) e.1 (settled-clean c.request (next_of s h x.id t.stands.phase o.step) (c.steps ++ (o.step, seen_in t) ∷ [])
    (clean-next s h x.id t.stands.phase o.step c.steps t.stands.acts (each t).1 t.stands.clean)) in
    right t (Some answer) (λ none. cc) (λ some. (by some clean, legs)) (same, same ∙ sym (stood-after t (Some answer) ∙ ap phase_refusal e.1), value) where
      by : refusal_if (Some answer) ≢ None → (refusal_in (Some v) ≡ None) ⊎ All LeavesAll (c.steps ++ (o.step, seen_in t) ∷ []) → All LeavesAll (c.steps ++ (o.step, seen_in t) ∷ [])
      by some (inl none) = absurd (some (same ∙ none))
      by some (inr all) = all
