-- What the core does for a step of an open call: it is right, and the core represents it.
use Rattle.gt_core.proofs.Words.{slice_get, ◌≡◌, ◌≢◌, inl, inr, ℕ, refl, Bool, List, [], ◌∷◌, ◌++◌, length, Option}
use Rattle.gt_core.proofs.Words.{Some, None, cond, sym, ap, ◌∙◌, subst, reverse, eqb-true, eq-eqb, length-reverse}
use Rattle.gt_core.proofs.Words.{reverse_onto, same_Some, ◌==◌, DomId, GrantRef, Entry, Invalid, Handle, HeldPin}
use Rattle.gt_core.proofs.Words.{OpenRequest, Observation, Nothing, Taken, Missed, CallResult, Granted, Given, Refused}
use Rattle.gt_core.proofs.Words.{Step, Unpin, StoreBody, StoreHeader, Exchange, Action, Done, Call, Phase, knowledge_of}
use Rattle.gt_core.proofs.Words.{path, action_at, after_store, pins_at, held_in, Goes, OpenCall, Item, Answer, Denied}
use Rattle.gt_core.proofs.Words.{Mapped, State, state_of, sees, History, Setting, live, word_at, known_at, legs_at}
use Rattle.gt_core.proofs.Words.{mappings_at, mapping_of, seen_by, Underway, values, open_call, underway_after}
use Rattle.gt_core.proofs.Words.{holder_after, one_if_mapped, StepsRight, GivesValue, refusal_in, refusal_of}
use Rattle.gt_core.proofs.Words.{DomainsStand, StateStands, CallAgrees, OpenAgrees, numbered, position, get_or, set}
use Rattle.gt_core.proofs.Words.{position-Some, domain_of, CallValue, HandleMap, applied, with_underway, with_mapping}
use Rattle.gt_core.proofs.Words.{Adds, IsReadable, IsAdmitted, AccessedBy, bytes_at, FrameSet, frame_at, contents_at}
use Rattle.gt_core.proofs.Words.{IsRight, StepsRightIn, CoreStands, FramesStand, core_of, Settled, IsLawfulPin}
use Rattle.gt_core.proofs.Words.{IsLawfullyHeld, answer_with, Closed, IsRoomFor, IsMapping, ticked_with, ticked_element}
use Rattle.gt_core.proofs.Words.{Element, Tick, MayDo, DoesEvent, grown, without, RestsOnRequest, WantsMemoryNow}
use Rattle.gt_core.proofs.Words.{IsWritingNext, IsWriting, cond_both, CallerKnowledge, GivenAgrees, take, drop, asked}
use Rattle.gt_core.proofs.Words.{keyless_answer, handle_taken, IsLegalHistory}
use Rattle.gt_model.specs.declared.action.Action.TheVariants as actions
use Rattle.gt_model.specs.declared.trace.Answer.TheVariants as answers
use Rattle.gt_model.specs.declared.action.Step.TheVariants as call_steps
use Rattle.gt_model.specs.declared.action.CallValue.TheVariants as call_values
use Rattle.gt_model.specs.declared.trace.Element.TheVariants as elements
use Rattle.gt_model.specs.declared.request.PinHolder.TheVariants as holders
use Rattle.gt_model.specs.declared.action.CallResult.TheVariants as results
use Rattle.gt_core.specs.declared.core_state.Ticked.{Ticked as TickTold}
use Rattle.gt_calls.specs.Following.{IsLeftAlike}
use Rattle.gt_core.proofs.{Performing.left-alike, Performing.settled-after, Performing.stepped-state}
use Rattle.gt_core.proofs.{Performing.EndsByPin, Beginning.place-at, Values.call-ends, Steps.Pin.map-legs}
use Rattle.gt_core.proofs.{Steps.Pin.pin-stands, Steps.Pin.map-agrees, Steps.Pin.leg-agrees as pin-agrees}
use Rattle.gt_core.proofs.{AgreementKept.open_call-own, AgreementKept.quiet-stands, Steps.Store.IsStore}
use Rattle.gt_core.proofs.{Phases.IsHere, Steps.Store.header-stands, Steps.Store.store-stands, Steps.Write.bytes-held}
use Rattle.gt_core.proofs.{Steps.Write.open-admitted, Steps.Write.open-readable, Steps.Write.frames-stepped}
use Rattle.gt_core.proofs.{Phases.next_of, Outcomes.ends-so, Ticking.Ticks, Ticking.ticks, Ticking.given-goes-on}
use Rattle.gt_core.proofs.{Ticking.legs-after, Ticking.open-after, Ticking.goes-right, Ticking.ends-right}
use Rattle.gt_core.proofs.{Ticking.last-fact, Ticking.LastFact, Steps.Store.by-storing, Ticking.seen_in}
use Rattle.gt_core.proofs.{Ticking.phase_then, Ticking.history_then, Steps.Unpin.Loses, Steps.Unpin.unpin-stands}
use Rattle.gt_core.proofs.{Steps.Unpin.becomes-unpinned, Steps.Unpin.loses-leg, Steps.Unpin.loses-mapping}
use Rattle.gt_core.proofs.{Steps.Unpin.mapping-agrees, Steps.Unpin.leg-agrees as unpin-agrees}
use Rattle.gt_core.proofs.{Steps.Exchange.can-change, Steps.Pin.can-pin, Steps.Store.header-fits}
use Rattle.gt_core.proofs.{Steps.Pin.map-lawful, Steps.Pin.CanPin, Steps.Exchange.exchange-stands}
use Rattle.gt_core.proofs.{Beginning.agrees-found, Rows.has_id, Rows.found, Rows.state_of-set}
use Rattle.gt_model.proofs.Observers.{pins, new_pin, stepped}
use Rattle.gt_model.specs.declared.trace.Bytes.{Bytes}
use Rattle.gt_core.proofs.Ticking.{done-next}

-- the states in which only the actor's call, or its handles or bytes, differ
abbrev Replaced : List State → List State → State → State → Type 0
Replaced xs ys x new = (q : ℕ) → state_of ys q ≡ cond (x.id.0 == q) (Some new) (state_of xs q)

-- each step except the pin of a map
module _ (s : Setting) (h : History) (xs ys : List State) (x : State) (c : Underway) (phase : Phase) (answer : Option Answer) (o' : Option OpenCall) (here : state_of xs x.id.0 ≡ Some x) (a : StateStands s h x) (r : Replaced xs ys x (record x { underway = o' }))
    (m : one_if_mapped answer ≡ 0) (leg : (n : ℕ) → holder_after answer n ≡ holders.Leg n) where
  abbrev CallThen : Step → Observation → Type 0
  CallThen step seen = CallAgrees s (stepped x.id step seen answer ∷ h) x.id o' (open_call (stepped x.id step seen answer ∷ h) x.id.0)

  abbrev StandThen : Step → Observation → Type 0
  StandThen step seen = DomainsStand s (stepped x.id step seen answer ∷ h) (applied x.id step seen ys)

  given : (step : Step) (seen : Observation) → GivenAgrees (stepped x.id step seen answer ∷ h) x.id.0 x.given
  given step seen = given-goes-on x.id step seen answer h x.given a.given

  step-stands : (step : Step) → IsHere s h xs x.id c.request (values c) (reverse c.steps) phase step → LastFact (held_in phase) step → (IsStore step → answer ≡ None)
      → CallThen step (seen_by s h x.id step) → StandThen step (seen_by s h x.id step)
  step-stands (call_steps.Pin p) i last store call = let w = word_at s h p.dom.0 p.gref.0 in let v : Observation = Missed w in
      cond_both (w == p.word) Taken v (λ seen. CallThen (call_steps.Pin p) seen → StandThen (call_steps.Pin p) seen)
      (λ is now. let can = can-pin s h xs x.id c.request (values c) (reverse c.steps) phase p i (eqb-true w p.word is) in
      pin-stands s h xs ys x p answer x.mappings o' i.st here a r can.few (subst (IsLawfullyHeld s (new_pin h x.id p answer)) (sym (leg (length (legs_at h x.id.0)))) tt)
      (pin-agrees h x.id p answer x.mappings (leg (length (legs_at h x.id.0))) m a.mappings) now (given (call_steps.Pin p) Taken))
      (λ is now. quiet-stands s (stepped x.id (call_steps.Pin p) v answer) h xs ys x o' x.given (record { changes = λ r. refl; stores = λ r which. refl; header = refl })
      (record { changes = λ r. refl; pins = λ before ps. refl; unpins = λ pins. refl; maps = m }) refl i.st here a r now (given (call_steps.Pin p) v)) call
  step-stands (Exchange gref looked change) i last store call = let w = word_at s h x.id.0 gref.0 in let v : Observation = Missed w in
      cond_both (w == looked) Taken v (λ seen. CallThen (Exchange gref looked change) seen → StandThen (Exchange gref looked change) seen)
      (λ is now. let can = can-change s h xs x.id c.request (values c) (reverse c.steps) phase gref looked change i (eqb-true w looked is) in
      exchange-stands s h xs ys x gref looked change answer o' i.st here a r can.within can.safe can.fits can.room m now (given (Exchange gref looked change) Taken))
      (λ is now. quiet-stands s (stepped x.id (Exchange gref looked change) v answer) h xs ys x o' x.given (record { changes = λ r. refl; stores = λ r which. refl; header = refl })
      (record { changes = λ r. refl; pins = λ before ps. refl; unpins = λ pins. refl; maps = m }) refl i.st here a r now (given (Exchange gref looked change) v)) call
  step-stands (Unpin p (holders.Leg place)) i last store call = let l = last p place refl in
      let legs : legs_at h x.id.0 ≡ numbered 0 (reverse l.0 ++ p ∷ []) = i.held ∙ ap (λ (z : List HeldPin). numbered 0 (reverse z)) l.1 ∙ ap (numbered 0) (reverse_onto l.0 p []) in
      unpin-stands s h xs _ x p (holders.Leg place) Nothing answer x.mappings o' i.st here a (becomes-unpinned xs ys x p (holders.Leg place) o' r)
      (subst (λ (n : ℕ). Loses p (live h) (without x.id.0 (holders.Leg n) (live h))) (length-reverse l.0 ∙ sym l.2) (loses-leg h x.id (reverse l.0) p legs))
      (unpin-agrees h x.id p place Nothing answer x.mappings m a.mappings) call (given (Unpin p (holders.Leg place)) Nothing)
  step-stands (Unpin p (holders.Mapping handle)) i last store call = let found : mapping_of (mappings_at h x.id.0) handle ≡ Some p = i.rests.1.1 in
      unpin-stands s h xs _ x p (holders.Mapping handle) Nothing answer (Rattle.gt_core.specs.Effects.handle_taken handle x.mappings) o' i.st here a (becomes-unpinned xs ys x p (holders.Mapping handle) o' r)
      (loses-mapping h x.id handle p found) (mapping-agrees h x.id p handle Nothing answer x.mappings m found a.mappings) call (given (Unpin p (holders.Mapping handle)) Nothing)
  step-stands (StoreHeader version frames) i last store call =
      header-stands s h xs ys x version frames answer o' i.st here a r m (header-fits s h xs x.id c.request version frames i.st i.rests.0 i.rests.1) call (given (StoreHeader version frames) Nothing)
  step-stands (StoreBody gref body_word word) i last store call = let step : Step = StoreBody gref body_word word in
      subst (λ (z : Option Answer). DomainsStand s (stepped x.id step Nothing z ∷ h) (applied x.id step Nothing ys)) (sym (store tt))
      (store-stands s h xs ys x gref body_word word o' i.st here a r
      (subst (λ (z : Option Answer). CallAgrees s (stepped x.id step Nothing z ∷ h) x.id o' (open_call (stepped x.id step Nothing z ∷ h) x.id.0)) (store tt) call) (given-goes-on x.id step Nothing None h x.given a.given))
  step-stands step i last store call = quiet-stands s (stepped x.id step (seen_by s h x.id step) answer) h xs ys x o' x.given (record { changes = λ r. refl; stores = λ r which. refl; header = refl })
      (record { changes = λ r. refl; pins = λ before ps. refl; unpins = λ pins. refl; maps = m }) refl i.st here a r call (given step _)

-- the actor's call after this

call-over : (s : Setting) (h : History) (d : DomId) (step : Step) (seen : Observation) (answer : Answer) → legs_at (stepped d step seen (Some answer) ∷ h) d.0 ≡ [] → CallAgrees s (stepped d step seen (Some answer) ∷ h) d None (open_call (stepped d step seen (Some answer) ∷ h) d.0)
call-over s h d step seen answer legs = subst (λ (u : Option Underway). CallAgrees s (stepped d step seen (Some answer) ∷ h) d None u) (sym (open_call-own (stepped d step seen (Some answer)) h)) legs

-- what a tick has to do
abbrev pub Ticked : Setting → History → DomId → Step → Observation → Option Answer → List State → Type 0
Ticked s h d step seen answer zs = IsRight s h (stepped d step seen answer) × DomainsStand s (stepped d step seen answer ∷ h) zs

right-in : (s : Setting) (h : History) (d : DomId) (step : Step) (seen : Observation) (answer : Option Answer) (c : Underway) → open_call h d.0 ≡ Some c → StepsRight s h (stepped d step seen answer) step seen c → IsRight s h (stepped d step seen answer)
right-in s h d step seen answer c call a = subst (λ (u : Option Underway). StepsRightIn s h (stepped d step seen answer) step seen u) (sym call) a

-- an answer with no mapping
abbrev IsPlainAnswer : Answer → Type 0
IsPlainAnswer (Mapped handle) = ⊥
IsPlainAnswer answer = Unit {0}

plain : (answer : Answer) → IsPlainAnswer answer → (one_if_mapped (Some answer) ≡ 0) × ((n : ℕ) → holder_after (Some answer) n ≡ holders.Leg n)
plain (Mapped handle) a = absurd a
plain answer a = (refl, λ n. refl)

after-granted : (k : CallerKnowledge) (d : DomId) (g : GrantRef) (v : CallResult) (entry : Entry) → Done v ≡ action_at d (after_store k g entry) → ⊥
after-granted k d g v Invalid e = cc
after-granted k d g v entry e = cc

module _ {s : Setting} {h : History} {xs : List State} {x : State} {o : OpenCall} {c : Underway} {new : Call} where
  -- a call that continues
  goes-core : (ys : List State) {z : Step} (t : Ticks s h xs x o c new (actions.Step z)) → Replaced xs ys x (record x { underway = Some (record { call = new; step = z }) }) → Ticked s h x.id o.step (seen_in t) None (applied x.id o.step (seen_in t) ys)
  goes-core ys {z} t r = let i = stepped x.id o.step (seen_in t) None in
      let now : open_call (i ∷ h) x.id.0 ≡ Some (record { request = c.request; given = c.given; steps = c.steps ++ (o.step, seen_in t) ∷ [] }) = open_call-own i h ∙ ap (underway_after i) t.call in (
        right-in s h x.id o.step (seen_in t) None c t.call (goes-right t),
        step-stands s h xs ys x c t.stands.phase None (Some (record { call = new; step = z })) t.here t.agrees r refl (λ n. refl) o.step t.i (last-fact t) (λ store. refl)
            (subst (λ (u : Option Underway). CallAgrees s (i ∷ h) x.id (Some (record { call = new; step = z })) u) (sym now) (open-after t)),
      )

  -- no store ends a call
  store-goes : {v : CallResult} → Ticks s h xs x o c new (Done v) → IsStore o.step → ⊥
  store-goes {v} t store = let k = known_at s h x.id in by-storing s h x.id c.request (path k x.id c.request) (values c) (λ (p : Phase) (z : Step). Done v ≡ action_at x.id (next_of s h x.id p z) → ⊥)
      (λ g entry. after-granted k x.id g v entry) (λ g entry e. cc) t.stands.phase o.step t.stands.at.has_shown t.stands.acts store (sym (done-next t))

  -- a call that ends
  ends-core : (ys : List State) {v : CallResult} (answer : Answer) (t : Ticks s h xs x o c new (Done v)) → Replaced xs ys x (record x { underway = None }) → IsPlainAnswer answer → ((m : HeldPin) → v ≡ results.Mapped m → ⊥)
      → refusal_of answer ≡ refusal_in (Some v) → GivesValue s h x.id c.request (Some o.step) answer → Ticked s h x.id o.step (seen_in t) (Some answer) (applied x.id o.step (seen_in t) ys)
  ends-core ys {v} answer t r is_plain unmapped same value = let q = plain answer is_plain in let e = ends-so x.id (phase_then t) v (sym t.acts) in
      let legs : legs_at (history_then t (Some answer)) x.id.0 ≡ [] = legs-after t (Some answer) q.0 q.1 (λ m f. unmapped m (let g : v ≡ results.Mapped m = cc in g))
      ∙ ap (λ (p : Phase). numbered 0 (reverse (held_in p))) e.1 ∙ ap (λ (l : List HeldPin). numbered 0 (reverse l)) e.2 in (
        right-in s h x.id o.step (seen_in t) (Some answer) c t.call (ends-right t answer same legs value),
        step-stands s h xs ys x c t.stands.phase (Some answer) None t.here t.agrees r q.0 q.1 o.step t.i (last-fact t) (λ store. absurd (store-goes t store)) (call-over s h x.id o.step (seen_in t) answer legs),
      )

  given-core : (ys : List State) {value : CallValue} (t : Ticks s h xs x o c new (Done (Given value))) → Replaced xs ys x (record x { underway = None }) → Ticked s h x.id o.step (seen_in t) (Some (answer_with value)) (applied x.id o.step (seen_in t) ys)
  given-core ys {value} t r = let q = by value in ends-core ys (answer_with value) t r q.0 (λ m e. cc) q.1
      (call-ends s h xs x.id c.request (values c) (reverse c.steps) t.stands.phase o.step t.i (Given value) (done-next t))
    where
      by : (z : CallValue) → IsPlainAnswer (answer_with z) × (refusal_of (answer_with z) ≡ None)
      by (call_values.Frames n) = (tt, refl)
      by z = (tt, refl)

  -- a map with its pin
  mapped-core : (ys : List State) {held : HeldPin} (handle : Handle) (kept : HandleMap HeldPin) (t : Ticks s h xs x o c new (Done (results.Mapped held))) → Replaced xs ys x (record x { mappings = kept; underway = None })
      → Adds x.mappings kept handle held → Ticked s h x.id o.step (seen_in t) (Some (Mapped handle)) (applied x.id o.step (seen_in t) ys)
  mapped-core ys {held} handle kept t r adds = let d = x.id in let answer : Option Answer = Some (Mapped handle) in
      let m = call-ends s h xs d c.request (values c) (reverse c.steps) t.stands.phase o.step t.i (results.Mapped held) (done-next t) in
      let saw : seen_in t ≡ Taken = ap (seen_by s h d) m.is ∙ ap (λ (b : Bool). cond b Taken (Missed (word_at s h held.dom.0 held.gref.0))) (eq-eqb (word_at s h held.dom.0 held.gref.0) held.word m.taken) in
      let j : IsHere s h xs d c.request (values c) (reverse c.steps) t.stands.phase (call_steps.Pin held) = subst (IsHere s h xs d c.request (values c) (reverse c.steps) t.stands.phase) m.is t.i in
      let can : CanPin s h d c.request held = can-pin s h xs d c.request (values c) (reverse c.steps) t.stands.phase held j m.taken in
      let law = map-lawful s h d c.request held (values c) (pins_at t.stands.phase) j.rests.0 j.rests.1 m.dom m.gref m.flags m.of_map in
      let lawful : IsLawfulPin s (new_pin h d held answer) = subst (λ (q : HeldPin). IsLawfullyHeld s (record { actor = d.0; holder = holders.Mapping handle; held = q }) (holders.Mapping handle)) (sym can.is) law in
      let legs : legs_at (pins d held answer ∷ h) d.0 ≡ [] = map-legs h d held handle ∙ t.stands.held ∙ ap (λ (l : List HeldPin). numbered 0 (reverse l)) m.none in
      let maps = map-agrees h d held handle x.mappings kept (subst (λ (q : HeldPin). Adds x.mappings kept handle q) (sym can.is) adds) t.agrees.mappings in
      let stands = pin-stands s h xs ys x held answer kept None t.i.st t.here t.agrees r can.few lawful maps (call-over s h d (call_steps.Pin held) Taken (Mapped handle) legs) (given-goes-on d (call_steps.Pin held) Taken answer h x.given t.agrees.given) in
      let same : stepped d o.step (seen_in t) answer ≡ pins d held answer = ap (λ (v : Observation). stepped d o.step v answer) saw ∙ ap (λ (z : Step). stepped d z Taken answer) m.is in
      let value : GivesValue s h d c.request (Some o.step) (Mapped handle) = subst (λ (z : Step). GivesValue s h d c.request (Some z) (Mapped handle)) (sym m.is)
      (subst (λ (q : OpenRequest). GivesValue s h d q (Some (call_steps.Pin held)) (Mapped handle)) (sym m.of_map) (adds.serial ∙ t.agrees.mappings.given)) in (
        right-in s h d o.step (seen_in t) answer c t.call (ends-right t (Mapped handle) refl (ap (λ (k : Item). legs_at (k ∷ h) d.0) same ∙ legs) value),
        subst (λ (v : Observation). DomainsStand s (stepped d o.step v answer ∷ h) (applied d o.step v ys)) (sym saw)
            (subst (λ (z : Step). DomainsStand s (stepped d z Taken answer ∷ h) (applied d z Taken ys)) (sym m.is) stands),
      )

-- a call that is answered Ok with bytes or no value

module _ {s : Setting} {h : History} {xs : List State} {fs : FrameSet} {x : State} {o : OpenCall} {c : Underway} {new : Call} (t : Ticks s h xs x o c new (Done Granted)) (fr : FramesStand s h fs) where
  -- what a read returned
  read-gives : (dom : DomId) (frame off len : ℕ) (b : Bytes) → o.step ≡ call_steps.Read dom frame off len → b.bytes.items ≡ bytes_at (frame_at fs (record { owner = dom; number = frame })) off len
      → GivesValue s h x.id c.request (Some (call_steps.Read dom frame off len)) (answers.Bytes b)
  read-gives dom frame off len b is gives =
      by (subst (IsHere s h xs x.id c.request (values c) (reverse c.steps) t.stands.phase) is t.i).rests.1 (gives ∙ bytes-held s h fs dom frame off len fr) where
        by : RestsOnRequest (known_at s h x.id) x.id c.request (call_steps.Read dom frame off len) → b.bytes.items ≡ take len (drop off (contents_at h dom.0 frame)) → GivesValue s h x.id c.request (Some (call_steps.Read dom frame off len)) (answers.Bytes b)
        by (inl (handle, asked, mapped)) bytes = rw asked bytes
        by (inr (asked, own)) bytes = rw asked bytes

  granted-core : (at : ℕ) (answer : Answer) (zs : List State) → Replaced xs (set xs at (with_underway None x)) x (record x { underway = None }) → Closed fs xs at x o.step answer zs
      → Ticked s h x.id o.step (seen_in t) (Some answer) (applied x.id o.step (seen_in t) zs)
  granted-core at answer zs plain settled = by o.step refl settled where
    Goal : Answer → List State → Type 0
    Goal a l = Ticked s h x.id o.step (seen_in t) (Some a) (applied x.id o.step (seen_in t) l)

    ends : (a : Answer) → answer ≡ a → IsPlainAnswer a → refusal_of a ≡ None → zs ≡ set xs at (with_underway None x) → GivesValue s h x.id c.request (Some o.step) a → Goal answer zs
    ends a done is_plain same left value = subst (λ (b : Answer). Goal b zs) (sym done) (subst (Goal a) (sym left) (ends-core (set xs at (with_underway None x)) a t plain is_plain (λ m e. cc) same value))

    over : (step : Step) → o.step ≡ step → (answer ≡ answers.Done) × (zs ≡ set xs at (with_underway None x)) → ((dom : DomId) (frame off len : ℕ) → step ≡ call_steps.Read dom frame off len → ⊥) → Goal answer zs
    over step is (done, left) read = ends answers.Done done tt refl left
        (call-ends s h xs x.id c.request (values c) (reverse c.steps) t.stands.phase o.step t.i Granted (done-next t) (λ dom frame off len e. read dom frame off len (sym is ∙ e)))

    by : (step : Step) → o.step ≡ step → Closed fs xs at x step answer zs → Goal answer zs
    by (call_steps.Read dom frame off len) is (b, done, left, gives) = ends (answers.Bytes b) done tt refl left
        (subst (λ (z : Step). GivesValue s h x.id c.request (Some z) (answers.Bytes b)) (sym is) (read-gives dom frame off len b is gives))
    by step is a = over step is a (λ t frame off len e. cc)

-- the cases of a tick

-- a domain's open call
module _ (s : Setting) (h : History) (xs : List State) (dom : DomId) (at : ℕ) (x : State) (o : OpenCall) (place : position (has_id dom.0) xs ≡ Some at) (here : x ≡ get_or xs at x) (under : x.underway ≡ Some o) where
  open-here : DomainsStand s h xs → (domain_of s.domains dom ≢ None) × (x.id ≡ dom) × StateStands s h x × ((c : Underway) × (open_call h x.id.0 ≡ Some c) × OpenAgrees s h x.id o c)
  open-here st = let a = agrees-found s h xs dom at x place here st in (a.0, a.1, a.2, by x.underway (open_call h x.id.0) under a.2.call) where
    by : (u : Option OpenCall) (call : Option Underway) → u ≡ Some o → CallAgrees s h x.id u call → (c : Underway) × (call ≡ Some c) × OpenAgrees s h x.id o c
    by None call e a = cc
    by (Some z) None e a = absurd a
    by (Some z) (Some c) e a = (c, refl, subst (λ (y : OpenCall). OpenAgrees s h x.id y c) (same_Some _ _ e) a)

  -- it may fail with Memory
  pub tick-wants : DomainsStand s h xs → IsWriting o.step → WantsMemoryNow s h dom
  tick-wants st writing = let a = open-here st in subst (WantsMemoryNow s h) a.1 (a.3.0, a.3.1, subst IsWritingNext (sym a.3.2.follows) writing)

  -- what its step writes is by right
  pub tick-admitted : (fs : FrameSet) → CoreStands s h (core_of xs fs) → IsAdmitted fs x o.call o.step
  tick-admitted fs st = let a = open-here st.domains in open-admitted s h xs fs x o a.3.0 st.domains st.frames a.2 a.3.1 a.3.2

  -- what it reads exists
  pub tick-readable : (fs : FrameSet) → CoreStands s h (core_of xs fs) → IsReadable fs o.call o.step
  tick-readable fs st = let a = open-here st.domains in open-readable s h xs fs x o a.3.0 st.domains st.frames a.3.2

  -- the frames after it
  tick-frames : (fs gs : FrameSet) (seen : Observation) (answer : Option Answer) → CoreStands s h (core_of xs fs) → AccessedBy x o.call o.step fs gs → FramesStand s (stepped dom o.step seen answer ∷ h) gs
  tick-frames fs gs seen answer st wrote = let a = open-here st.domains in let u = a.3 in
      subst (λ (d : DomId). FramesStand s (stepped d o.step seen answer ∷ h) gs) a.1 (frames-stepped s h fs gs x o.call o.step seen answer u.0 u.1 (a.2.given u.0 u.1).0 st.frames wrote)

-- what a domain's tick starts from
pub record Begins (s : Setting) (xs : List State) (dom : DomId) (at : ℕ) (x : State) (o : OpenCall) (seen : Observation) (new : Call) (action : Action) : Type 0 where
  pub place : position (has_id dom.0) xs ≡ Some at
  pub here : x ≡ get_or xs at x
  pub under : x.underway ≡ Some o
  pub saw : seen ≡ sees xs dom o.step
  pub caller : new.caller ≡ o.call.caller
  pub asks : new.request ≡ o.call.request
  pub goes : Goes (knowledge_of s.domains s.first_generation s.may x.own x.header x.mappings) o.call seen new action

-- the call continued from the states that its step left
pub begins-after : (s : Setting) (h : History) (xs ws : List State) (fs : FrameSet) (dom : DomId) (at : ℕ) (x : State) (o : OpenCall) (seen : Observation) (new : Call) (action : Action) → CoreStands s h (core_of xs fs) → position (has_id dom.0) xs ≡ Some at → x ≡ get_or xs at x → x.underway ≡ Some o
    → seen ≡ sees xs dom o.step → ws ≡ applied dom o.step seen xs → new.caller ≡ o.call.caller → new.request ≡ o.call.request
    → ((d : State) → slice_get ws at ≡ Some d → (k : CallerKnowledge) → IsLeftAlike k (knowledge_of s.domains s.first_generation s.may d.own d.header d.mappings) o.call seen → Goes k o.call seen new action)
    → Begins s xs dom at x o seen new action
begins-after s h xs ws fs dom at x o seen new action st place here under saw left caller asks goes = let a = open-here s h xs dom at x o place here under st.domains in
    let found = place-at xs dom.0 at x place here in let y = stepped-state dom o.step seen xs at x place in record {
      place = place;
      here = here;
      under = under;
      saw = saw;
      caller = caller;
      asks = asks;
      goes = goes y.0 (ap (λ (l : List State). slice_get l at) left ∙ y.1) _ (left-alike s h xs at dom x y.0 o a.3.0 seen a.3.2 found y.1);
    }

-- the parts of it
pub record Begun (s : Setting) (h : History) (xs : List State) (dom : DomId) (at : ℕ) (x : State) (o : OpenCall) (seen : Observation) (new : Call) (action : Action) : Type 0 where
  pub named : domain_of s.domains dom ≢ None
  pub is : x.id ≡ dom
  pub c : Underway
  pub same : seen ≡ seen_by s h x.id o.step
  pub ticks : Ticks s h xs x o c new action
  pub replaced : (new : State) → new.id.0 ≡ x.id.0 → Replaced xs (set xs at new) x new

begun : (s : Setting) (h : History) (xs : List State) (dom : DomId) (at : ℕ) (x : State) (o : OpenCall) (seen : Observation) (new : Call) (action : Action) → IsLegalHistory s h → DomainsStand s h xs → Begins s xs dom at x o seen new action → Begun s h xs dom at x o seen new action
begun s h xs dom at x o seen new action legal st b = let a = open-here s h xs dom at x o b.place b.here b.under st in let u = a.3 in
    let g : state_of xs x.id.0 ≡ Some x = ap (λ (z : DomId). state_of xs z.0) a.1 ∙ found xs dom.0 at x b.place ∙ ap (λ (y : State). Some y) (sym b.here) in
    let t = ticks s h xs x o u.0 seen new action legal st g a.2 u.1 u.2 (b.saw ∙ ap (λ (z : DomId). sees xs z o.step) (sym a.1)) b.caller b.asks b.goes in
    let places = position-Some (has_id dom.0) xs at x b.place in record {
      named = a.0;
      is = a.1;
      c = u.0;
      same = t.0;
      ticks = t.1;
      replaced = λ y e q. state_of-set xs at x y q places.0 (sym b.here) e (λ k below. ap (λ (z : DomId). has_id z.0 (get_or xs k x)) a.1 ∙ places.2 k below);
    }

-- how the domain's call continues by its action
action-core : (s : Setting) (h : History) (fs : FrameSet) (xs zs : List State) (at : ℕ) (x : State) (o : OpenCall) (c : Underway) (new : Call) (action : Action) (answer : Option Answer) → Ticks s h xs x o c new action → FramesStand s h fs
    → ((y : State) → y.id.0 ≡ x.id.0 → Replaced xs (set xs at y) x y) → Settled fs xs at x o.step new action answer zs
    → Ticked s h x.id o.step (seen_by s h x.id o.step) answer (applied x.id o.step (seen_by s h x.id o.step) zs)
action-core s h fs xs zs at x o c new action answer t fr r settled = by action t settled where
  Goal : Option Answer → List State → Type 0
  Goal a ys = Ticked s h x.id o.step (seen_by s h x.id o.step) a (applied x.id o.step (seen_by s h x.id o.step) ys)

  become : (a : Option Answer) (ys : List State) → answer ≡ a → zs ≡ ys → Goal a ys → Goal answer zs
  become a ys is left b = subst (λ (z : Option Answer). Goal z zs) (sym is) (subst (Goal a) (sym left) b)

  by : (z : Action) → Ticks s h xs x o c new z → Settled fs xs at x o.step new z answer zs → Goal answer zs
  by (actions.Step z) t (none, left) = become None _ none left (goes-core _ t (r (with_underway (Some (record { call = new; step = z })) x) refl))
  by (Done Granted) t (a, is, closed) = become (Some a) zs is refl (granted-core t fr at a zs (r (with_underway None x) refl) closed)
  by (Done (results.Mapped held)) t (a, is, (handle, kept, gives, adds, left)) = become (Some (Mapped handle)) _ (is ∙ ap (λ (z : Answer). Some z) gives) left (mapped-core _ handle kept t (r (with_mapping kept x) refl) adds)
  by (Done (Given value)) t (a, is, (gives, left)) = become (Some (answer_with value)) _ (is ∙ ap (λ (z : Answer). Some z) gives) left (given-core _ t (r (with_underway None x) refl))
  by (Done (Refused denial)) t (a, is, (gives, left)) = become (Some (Denied denial)) _ (is ∙ ap (λ (z : Answer). Some z) gives) left (ends-core _ (Denied denial) t (r (with_underway None x) refl) tt (λ m e. cc) refl tt)

-- a map that ends had made its room when it began
pub room-asked : (s : Setting) (h : History) (xs : List State) (dom : DomId) (at : ℕ) (x : State) (o : OpenCall) (seen : Observation) (new : Call) (action : Action) → IsLegalHistory s h → DomainsStand s h xs → Begins s xs dom at x o seen new action → IsRoomFor o.call.request action
room-asked s h xs dom at x o seen new (Done (results.Mapped held)) legal st b =
    let n = begun s h xs dom at x o seen new (Done (results.Mapped held)) legal st b in let t = n.ticks in
    let m = call-ends s h xs x.id n.c.request (values n.c) (reverse n.c.steps) t.stands.phase o.step t.i (results.Mapped held) (done-next t) in
    subst (λ (q : OpenRequest). IsMapping (Some q)) (sym (t.stands.asks ∙ m.of_map)) tt
room-asked s h xs dom at x o seen new action legal st b = tt

-- a step that reads changes no frame, so its range exists after it too
pub readable-after : (fs gs : FrameSet) (x : State) (call : Call) (step : Step) → AccessedBy x call step fs gs → IsReadable fs call step → IsReadable gs call step
readable-after fs gs x call (call_steps.Read dom frame off len) wrote a = subst (λ (z : FrameSet). IsReadable z call (call_steps.Read dom frame off len)) (sym wrote) a
readable-after fs gs x call step wrote a = tt

-- it returns what they held before it
settled-before : (fs gs : FrameSet) (xs new : List State) (at : ℕ) (x d : State) (old call : Call) (step : Step) (action : Action) (answer : Option Answer) → AccessedBy x old step fs gs
    → Settled gs xs at d step call action answer new → Settled fs xs at d step call action answer new
settled-before fs gs xs new at x d old call (call_steps.Read dom frame off len) (Done Granted) answer wrote (a, is, closed) = (a, is, subst (λ (z : FrameSet). Closed z xs at d (call_steps.Read dom frame off len) a new) wrote closed)
settled-before fs gs xs new at x d old call step action answer wrote a = a

-- only a pin ends a call with a mapping
ends-by-pin : (s : Setting) (h : History) (xs : List State) (x : State) (o : OpenCall) (c : Underway) (new : Call) (action : Action) → Ticks s h xs x o c new action → EndsByPin o.step action
ends-by-pin s h xs x o c new (Done (results.Mapped held)) t = (held, (call-ends s h xs x.id c.request (values c) (reverse c.steps) t.stands.phase o.step t.i (results.Mapped held) (done-next t)).is)
ends-by-pin s h xs x o c new action t = tt

-- What a tick does that returns this step; the frames and states are then those that the call's settling left, which
-- started from those that its step left.
pub tick-does : (s : Setting) (fs gs ks : FrameSet) (xs ys : List State) (dom : DomId) (at : ℕ) (x : State) (o : OpenCall) (seen : Observation) (new : Call) (action : Action) (answer : Option Answer) (keyless_answer : TickTold) → keyless_answer ≡ ticked_with o.step seen answer
    → Begins s xs dom at x o seen new action → AccessedBy x o.call o.step fs gs → ((d : State) → slice_get (applied dom o.step seen xs) at ≡ Some d → Settled gs (applied dom o.step seen xs) at d o.step new action answer ys) → ks ≡ gs
    → DoesEvent s (core_of xs fs) (Tick dom) (ticked_element dom keyless_answer) (core_of ys ks)
unfolding IsLegalHistory
tick-does s fs gs ks xs ys dom at x o seen new action answer keyless_answer is b wrote settles same = λ h st.
    let n = begun s h xs dom at x o seen new action st.legal st.domains b in let y = stepped-state dom o.step seen xs at x b.place in
    let z = settled-after gs xs ys at dom x y.0 o.step seen new action answer b.place b.here y.2 (place-at xs dom.0 at x b.place b.here) y.1 (ends-by-pin s h xs x o n.c new action n.ticks) (settles y.0 y.1) in
    let t = action-core s h fs xs z.0 at x o n.c new action answer n.ticks st.frames n.replaced (settled-before fs gs xs z.0 at x x o.call new o.step action answer wrote z.1) in
    let r = subst (λ (d : DomId). Ticked s h d o.step seen answer (applied d o.step seen z.0)) n.is (subst (λ (v : Observation). Ticked s h x.id o.step v answer (applied x.id o.step v z.0)) (sym n.same) t) in
    subst (λ (z : Element). MayDo s h (Tick dom) z × CoreStands s (grown h z) (core_of ys ks)) (sym (ap (ticked_element dom) is ∙ element answer)) (
      (n.named, (refl, tt), r.0),
      record {
        legal = (r.0, st.legal);
        domains = subst (DomainsStand s (stepped dom o.step seen answer ∷ h)) (sym z.2) r.1;
        frames = subst (FramesStand s (stepped dom o.step seen answer ∷ h)) (sym same) (tick-frames s h xs dom at x o b.place b.here b.under fs gs seen answer st wrote);
      },
    )
  where
    element : (a : Option Answer) → ticked_element dom (ticked_with o.step seen a) ≡ elements.Item (stepped dom o.step seen a)
    element None = refl
    element (Some a) = refl
