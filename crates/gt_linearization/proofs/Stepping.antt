-- A step of an open call keeps items and history in agreement.
use Rattle.gt_core.proofs.Words.{live, without, ◌++◌, [], ◌≡◌, ◌≢◌, ◌<◌, ◌≤◌, ℕ, refl, Bool, true, false, not, List}
use Rattle.gt_core.proofs.Words.{◌∷◌, Option, Some, None, sym, ap, ◌∙◌, subst, reverse, same_Some, none-some, arith}
use Rattle.gt_core.proofs.Words.{DomId, GrantRef, domain_of, Entry, EntryChange, Publish, HeldPin, PinHolder}
use Rattle.gt_core.proofs.Words.{OpenRequest, Grant, Observation, Nothing, Word, Taken, Missed, Step, LookHeader}
use Rattle.gt_core.proofs.Words.{LookControl, LookBody, Unpin, StoreBody, StoreHeader, Exchange, State, state_of, Phase}
use Rattle.gt_core.proofs.Words.{path, known_at, Setting, Underway, Rests, pins_at, DomainConfig, values, open_call}
use Rattle.gt_core.proofs.Words.{DomainsStand, StateStands, CallAgrees, OpenAgrees, StateAgrees, CoreStands, IsClean}
use Rattle.gt_core.proofs.Words.{IsRight, IsSafe, begun, entry_at, table_at, reads_at, writes_at, size_of}
use Rattle.gt_core.proofs.Words.{TABLE_ENTRIES, CoreState}
use Rattle.gt_model.specs.declared.action.Action.TheVariants as actions
use Rattle.gt_model.specs.declared.change.BodyWord.TheVariants as body_words
use Rattle.gt_model.specs.declared.action.Step.TheVariants as call_steps
use Rattle.gt_model.specs.declared.change.EntryChange.TheVariants as changes
use Rattle.gt_model.specs.declared.request.PinHolder.TheVariants as holders
use Rattle.std.proofs.lemmas.List.{length-reverse, reverse-append}
use Rattle.std.proofs.lemmas.List.Elements.{All-append, All-cons, All-head, All-nil, All-pop, All-push, All-tail}
use Rattle.gt_model.proofs.Observers.{all-without, exchanged-live, new_pin, pinned-live, unpinned-live, stepped, pins}
use Rattle.gt_model.proofs.Observers.{unpins, exchanged}
use Rattle.gt_model.specs.declared.trace.Item.{Item}
use Rattle.std.specs.Prelude.{All, cond, length, ◌+◌, ◌==◌, IsSome}
use Rattle.gt_calls.specs.Resting.{RestsOnLast}
use Rattle.gt_model.specs.History.{Pin, by_leg, legs_at, gather, History, setting_of}
use Rattle.gt_core.specs.Phases.{numbered}
use Rattle.gt_core.proofs.Steps.Unpin.{Loses, loses-leg, loses-mapping}
use Rattle.gt_core.proofs.Phases.{IsHere}
use Rattle.gt_core.proofs.EachStep.{each-step}
use Rattle.gt_core.proofs.Entries.{of-safe}
use Rattle.gt_core.proofs.Steps.See.{IsWithin as InCore, table-fits}
use Rattle.gt_core.specs.GoingOn.{AccessesNoBytes, CanBeReached}
use Rattle.gt_model.specs.declared.trace.Answer.{Answer}
use Rattle.gt_core.specs.declared.underway.OpenCall.{OpenCall}
use Rattle.gt_model.specs.Justified.{IsSafeChange}
use Rattle.gt_model.specs.Entries.{is_read_only}
use Rattle.gt_model.specs.declared.request.OpenRequest.TheVariants.{Demote, Promote}
use Rattle.gt_calls.specs.Opening.{opens}
use Rattle.gt_types.specs.Config.{IsWithinLimits}
use Rattle.gt_types.specs.declared.config.Config.{Config}
use Rattle.gt_words.specs.Conditions.{HasDomain}
use Rattle.gt_word_history.specs.History.{StepHistory, Layout, RecordsWord, word_place_of, word_after}
use Rattle.gt_words.specs.Laws.{domain_of_run}
use Rattle.gt_word_history.specs.Rule.{layout_of, place}
use Rattle.gt_word_history.specs.Steps.{changed, changed_word}
use Rattle.gt_word_history.specs.declared.view.EntryStep.TheVariants.{Looked, ReadBody, Pinned, PinMissed, Unpinned}
use Rattle.gt_word_history.specs.declared.view.EntryStep.TheVariants.{StoredBody, Changed, ChangeMissed}
use Rattle.gt_word_history.specs.declared.view.HeaderStep.TheVariants as header
use Rattle.gt_word_history.specs.declared.view.SeatStep.{SeatStep}
use Rattle.gt_word_history.specs.declared.view.SeatStep.TheVariants.{Header}
use Rattle.gt_word_history.specs.declared.view.SeatStep.TheVariants as seat_steps
use Rattle.gt_live.specs.Domains.{AllowRelation}
use Rattle.gt_live.specs.Walks.{seen_in_step}
use Rattle.gt_linearization.proofs.Counting.{IsIdleFor, IsTurned, changes-entry, gives-back, takes-pin}
use Rattle.gt_linearization.proofs.AgreementKept.{KeepsWords, live-kept, quiet, stores-body, stores-header}
use Rattle.gt_linearization.specs.Agreeing.{Agree, IsThe, IsWithin, StoresChange, dom_at, last_at}
use Rattle.gt_linearization.specs.Laws.{StepsKeepAgreement}

-- where the core stands at an open call's next step

pub record StandsHere (s : Setting) (g : History) (d : DomId) (c : Underway) (step : Step) : Type 0 where
  pub core : CoreState
  pub st : CoreStands s g core
  pub phase : Phase
  pub here : IsHere s g core.domains d c.request (values c) (reverse c.steps) phase step
  pub clean : IsClean phase c.steps

pub state-there : (s : Setting) (g : History) (xs : List State) (d : DomId) → DomainsStand s g xs → domain_of s.domains d ≢ None → (x : State) × (state_of xs d.0 ≡ Some x) × (x.id ≡ d) × StateStands s g x
state-there s g xs d st named = by (state_of xs d.0) refl (st.each d) where
  by : (o : Option State) → state_of xs d.0 ≡ o → StateAgrees s g d o → (x : State) × (state_of xs d.0 ≡ Some x) × (x.id ≡ d) × StateStands s g x
  by None e a = absurd (named a)
  by (Some x) e a = (x, e, a.1, a.2)

pub open-there : (s : Setting) (g : History) (d : DomId) (u : Option OpenCall) (v : Option Underway) (c : Underway) → CallAgrees s g d u v → v ≡ Some c → (o : OpenCall) × OpenAgrees s g d o c
open-there s g d None None c a e = absurd (none-some c e)
open-there s g d None (Some z) c a e = absurd a
open-there s g d (Some o) None c a e = absurd a
open-there s g d (Some o) (Some z) c a e = (o, subst (OpenAgrees s g d o) (same_Some z c e) a)

pub stands-here : (s : Setting) (g : History) (d : DomId) (c : Underway) (step : Step) → CanBeReached s g → domain_of s.domains d ≢ None → open_call g d.0 ≡ Some c → path (known_at s g d) d c.request (values c) ≡ Some (actions.Step step) → StandsHere s g d c step
stands-here s g d c step (core, st) named call next =
    let t = state-there s g core.domains d st.domains named in
    let o = open-there s g d t.0.underway (open_call g d.0) c (subst (λ (z : DomId). CallAgrees s g z t.0.underway (open_call g z.0)) t.2 t.3.call) call in
    let same : actions.Step o.0.step ≡ actions.Step step = same_Some _ _ (sym o.1.follows ∙ next) in
    let step-is : o.0.step ≡ step = cc in record {
      core = core;
      st = st;
      phase = o.1.phase;
      here = subst (λ (z : Step). IsHere s g core.domains d c.request (values c) (reverse c.steps) o.1.phase z) step-is (record {
        legal = st.legal;
        st = st.domains;
        own = λ e. none-some t.0 (sym e ∙ t.1);
        at = o.1.at;
        acts = o.1.acts;
        place = o.1.place;
        held = o.1.held;
        rests = o.1.rests;
        fits = o.1.fits;
      });
      clean = o.1.clean;
    }

-- the step is on words of the run

has-domain : (c : Config) (may : AllowRelation) (k : Layout) (g : History) (xs : List State) (d : DomId) → k ≡ layout_of c → DomainsStand (setting_of c may) g xs → state_of xs d.0 ≢ None → HasDomain k d
has-domain c may k g xs d is st some = subst (λ (z : Layout). HasDomain z d) (sym is) ((domain_of_run c d).0 (by (domain_of c.domains.items d) refl))
  where
    named : StateAgrees (setting_of c may) g d (state_of xs d.0) → domain_of c.domains.items d ≢ None
    named a = from (state_of xs d.0) some a
      where
        from : (o : Option State) → o ≢ None → StateAgrees (setting_of c may) g d o → domain_of c.domains.items d ≢ None
        from None n a = absurd (n refl)
        from (Some x) n a = a.0

    by : (o : Option DomainConfig) → domain_of c.domains.items d ≡ o → IsSome o
    by None e = absurd (named (st.each d) e)
    by (Some x) e = refl

-- a pin of the call's own that is given back

-- the pins of the call, with the last one at the end
legs-held : (s : Setting) (g : History) (xs : List State) (d : DomId) (r : OpenRequest) (vs : List Observation) (so_far : List (Step × Observation)) (phase : Phase) (step : Step) (p : HeldPin) (n : ℕ) → IsHere s g xs d r vs so_far phase step → RestsOnLast (pins_at phase) p n
    → (qs : List HeldPin) × (legs_at g d.0 ≡ numbered 0 (qs ++ p ∷ [])) × (length qs ≡ n)
legs-held s g xs d r vs so_far phase step p n i rests = (
  reverse rests.others,
  i.held ∙ (ap (λ (l : List HeldPin). numbered 0 (reverse l)) rests.held ∙ ap (numbered 0) (reverse-append (p ∷ []) rests.others)),
  length-reverse rests.others ∙ sym rests.place_is,
)

pub leg-lost : (s : Setting) (g : History) (xs : List State) (d : DomId) (r : OpenRequest) (vs : List Observation) (so_far : List (Step × Observation)) (phase : Phase) (step : Step) (p : HeldPin) (n : ℕ) → IsHere s g xs d r vs so_far phase step → RestsOnLast (pins_at phase) p n
    → Loses p (live g) (without d.0 (holders.Leg n) (live g))
leg-lost s g xs d r vs so_far phase step p n i rests = let l = legs-held s g xs d r vs so_far phase step p n i rests in
    subst (λ (z : ℕ). Loses p (live g) (without d.0 (holders.Leg z) (live g))) l.2 (loses-leg g d l.0 p l.1)

-- what holds of all pins holds of it
legs-all : (P : HeldPin → Type 0) (d : ℕ) (ps : List Pin) → All (λ (q : Pin). P q.held) ps → All (λ (x : ℕ × HeldPin). P x.1) (gather by_leg d ps)
unfolding gather
legs-all P d [] a = All-nil (λ (x : ℕ × HeldPin). P x.1)
legs-all P d (p ∷ ps) a =
    All-append (λ (x : ℕ × HeldPin). P x.1) (cond (p.actor == d) (by_leg p.holder p.held) []) (gather by_leg d ps) (one (p.actor == d) p.holder) (legs-all P d ps (All-tail (λ (q : Pin). P q.held) p ps a))
  where
    one : (b : Bool) (x : PinHolder) → All (λ (x : ℕ × HeldPin). P x.1) (cond b (by_leg x p.held) [])
    one true (holders.Mapping handle) = All-nil (λ (x : ℕ × HeldPin). P x.1)
    one true (holders.Leg n) = All-cons (λ (x : ℕ × HeldPin). P x.1) (n, p.held) [] (All-head (λ (q : Pin). P q.held) p ps a) (All-nil (λ (x : ℕ × HeldPin). P x.1))
    one false x = All-nil (λ (x : ℕ × HeldPin). P x.1)

numbered-last : (m : ℕ) (qs : List HeldPin) (p : HeldPin) → numbered m (qs ++ p ∷ []) ≡ numbered m qs ++ (m + length qs, p) ∷ []
numbered-last m [] p = let e : m ≡ m + 0 = omega arith in λ j. (e j, p) ∷ []
numbered-last m (q ∷ qs) p = let e : m + 1 + length qs ≡ m + length (q ∷ qs) = omega arith in
    ap (λ (z : List (ℕ × HeldPin)). (m, q) ∷ z) (numbered-last (m + 1) qs p ∙ (λ j. numbered (m + 1) qs ++ (e j, p) ∷ []))

pub leg-all : (P : HeldPin → Type 0) (s : Setting) (g : History) (xs : List State) (d : DomId) (r : OpenRequest) (vs : List Observation) (so_far : List (Step × Observation)) (phase : Phase) (step : Step) (p : HeldPin) (n : ℕ) → IsHere s g xs d r vs so_far phase step → RestsOnLast (pins_at phase) p n
    → All (λ (q : Pin). P q.held) (live g) → P p
leg-all P s g xs d r vs so_far phase step p n i rests a =
    let l = legs-held s g xs d r vs so_far phase step p n i rests in
    (All-pop (λ (x : ℕ × HeldPin). P x.1) (numbered 0 l.0 ++ (0 + length l.0, p) ∷ []) (numbered 0 l.0) (Some (0 + length l.0, p)) refl
    (subst (All (λ (x : ℕ × HeldPin). P x.1)) (l.1 ∙ numbered-last 0 l.0 p) (legs-all P d.0 (live g) a))).1

pub within : (c : Config) (may : AllowRelation) (k : Layout) (g : History) (d : DomId) (cl : Underway) (step : Step) → k ≡ layout_of c → StandsHere (setting_of c may) g d cl step → AccessesNoBytes step
    → ((p : HeldPin) (holder : PinHolder) → step ≡ Unpin p holder → HasDomain k p.dom × (p.gref.0 < TABLE_ENTRIES)) → IsWithin k step
within c may k g d cl step is here quiet unpinned = by step refl (each-step s g xs d cl.request (values cl) (reverse cl.steps) here.phase step here.here).0 here.here.rests
  where
    s : Setting
    s = setting_of c may

    xs : List State
    xs = here.core.domains

    has : (dom : DomId) → state_of xs dom.0 ≢ None → HasDomain k dom
    has dom some = has-domain c may k g xs dom is here.st.domains some

    granted : (gref : GrantRef) (entry : Entry) → cl.request ≡ Grant gref entry → begun (known_at s g d) d cl.request ≡ None → gref.0 < TABLE_ENTRIES
    granted gref entry e none = let o = opens (known_at s g d) d (Grant gref entry) (subst (λ (z : OpenRequest). begun (known_at s g d) d z ≡ None) e none) in
        let le : size_of (table_at s g d) ≤ TABLE_ENTRIES = (table-fits _ (here.st.domains.tables d)).0 in let lt = o.in_table in omega arith

    by : (z : Step) → step ≡ z → InCore xs d z → Rests (known_at s g d) d cl.request (pins_at here.phase) (values cl) (actions.Step z) → IsWithin k z
    by (LookHeader dom) e w r = has dom w
    by (LookControl dom gref) e w r = (has dom w.0, w.1)
    by (LookBody dom gref body_word) e w r = (has dom w.0, w.1)
    by (call_steps.Pin p) e w r = (has p.dom w.0, w.1)
    by (Unpin p holder) e w r = unpinned p holder e
    by (StoreBody gref body_words.First word) e w r = granted gref r.1.0 r.1.1 r.0
    by (StoreBody gref body_words.Second word) e w r = granted gref r.1.0 r.1.1 r.0
    by (StoreHeader version frames) e w r = tt
    by (Exchange gref looked change) e w r = w.1
    by (call_steps.Read dom frame off len) e w r = absurd (subst AccessesNoBytes e quiet)
    by (call_steps.Write dom frame off len) e w r = absurd (subst AccessesNoBytes e quiet)
    by (call_steps.Copy from to len) e w r = absurd (subst AccessesNoBytes e quiet)

-- the step and its item

module _ (c : Config) (may : AllowRelation) (k : Layout) (g : History) (h : StepHistory) (i : ℕ) (is : k ≡ layout_of c) (limits : IsWithinLimits c) (inside : i < k.domains) (agree : Agree (setting_of c may) k g h) (answer : Option Answer)
    (cl : Underway) (step : Step) (here : StandsHere (setting_of c may) g (dom_at k i) cl step) (right : (seen : Observation) → IsRight (setting_of c may) g (stepped (dom_at k i) step seen answer) → IsSafe (setting_of c may) g (stepped (dom_at k i) step seen answer)) where
  abbrev s : Setting
  s = setting_of c may

  abbrev d : DomId
  d = dom_at k i

  -- what a step leaves as it is
  abbrev Goes : Step → SeatStep → Type 0
  Goes z x = Agree s k (stepped d z (seen_in_step x) answer ∷ g) ((i, x) ∷ h)

  rests : Rests (known_at s g d) d cl.request (pins_at here.phase) (values cl) (actions.Step step)
  rests = here.here.rests

  turned : (q : GrantRef) (looked : ℕ) (change : EntryChange) → Rests (known_at s g d) d cl.request (pins_at here.phase) (values cl) (actions.Step (Exchange q looked change)) → IsTurned change (entry_at g d.0 q.0)
  turned q looked (Publish entry) r = tt
  turned q looked changes.Revoke r = tt
  turned q looked changes.Withdraw r = tt
  turned q looked changes.Demote r = let o = opens (known_at s g d) d (Demote q) (subst (λ (z : OpenRequest). begun (known_at s g d) d z ≡ None) r.1.0 r.0) in (o.not_already, o.valid)
  turned q looked changes.Promote r = let o = opens (known_at s g d) d (Promote q) (subst (λ (z : OpenRequest). begun (known_at s g d) d z ≡ None) r.1.0 r.0) in
      ((let e : not (is_read_only (entry_at g d.0 q.0)) ≡ false = o.not_already in by (is_read_only (entry_at g d.0 q.0)) e), o.valid)
    where
      by : (b : Bool) → not b ≡ false → b ≡ true
      by true e = refl
      by false e = sym e

  idle : (q : GrantRef) (change : EntryChange) → IsSafeChange g d.0 q.0 change → IsIdleFor change (reads_at g d.0 q.0) (writes_at g d.0 q.0)
  idle q (Publish entry) safe = (safe.2, safe.3)
  idle q changes.Revoke safe = safe
  idle q changes.Withdraw safe = tt
  idle q changes.Demote safe = tt
  idle q changes.Promote safe = tt

  goes : (z : Step) (x : SeatStep) → step ≡ z → Rests (known_at s g d) d cl.request (pins_at here.phase) (values cl) (actions.Step z) → IsThe k i z x → IsWithin k z → StoresChange k h x → RecordsWord x (word_after k h (word_place_of x))
      → IsRight s g (stepped d step (seen_in_step x) answer) → Goes z x
  goes (LookHeader dom) (Header t (header.Looked n)) e r a w st says ok = quiet c s k g h i is limits agree inside (stepped d (LookHeader dom) (Word n) answer) (Header t (header.Looked n)) (record { changes = λ z. refl; pins = λ before ps. refl; unpins = λ ps. refl }) refl (λ z body_word. refl) (λ z. refl) tt
  goes (LookControl dom q) (seat_steps.Entry t y (Looked n)) e r a w st says ok = quiet c s k g h i is limits agree inside (stepped d (LookControl dom q) (Word n) answer) (seat_steps.Entry t y (Looked n)) (record { changes = λ z. refl; pins = λ before ps. refl; unpins = λ ps. refl }) refl (λ z body_word. refl) (λ z. refl) tt
  goes (LookBody dom q body_word) (seat_steps.Entry t y (ReadBody b n)) e r a w st says ok = quiet c s k g h i is limits agree inside (stepped d (LookBody dom q body_word) (Word n) answer) (seat_steps.Entry t y (ReadBody b n)) (record { changes = λ z. refl; pins = λ before ps. refl; unpins = λ ps. refl }) refl (λ z body_word. refl) (λ z. refl) tt
  goes (call_steps.Pin p) (seat_steps.Entry t y (Pinned b v u)) e r a w st says ok =
      subst (λ (z : SeatStep). Agree s k (pins d p answer ∷ g) ((i, z) ∷ h)) (λ j. seat_steps.Entry t (sym a.1 j) (Pinned (sym a.2 j) (sym a.3 j) u)) (takes-pin c s k g h i is limits agree inside p answer t u w.0 a.0 w.1)
  goes (call_steps.Pin p) (seat_steps.Entry t y (PinMissed b v f n)) e r a w st says ok = quiet c s k g h i is limits agree inside (stepped d (call_steps.Pin p) (Missed n) answer) (seat_steps.Entry t y (PinMissed b v f n)) (record { changes = λ z. refl; pins = λ before ps. refl; unpins = λ ps. refl }) refl (λ z body_word. refl) (λ z. refl) tt
  goes (Unpin p (holders.Mapping handle)) (seat_steps.Entry t y (Unpinned b u)) e r a w st says ok =
      subst (λ (z : SeatStep). Agree s k (unpins d p (holders.Mapping handle) Nothing answer ∷ g) ((i, z) ∷ h)) (λ j. seat_steps.Entry t (sym a.1 j) (Unpinned (sym a.2 j) u))
      (gives-back c s k g h i is limits agree inside p (holders.Mapping handle) Nothing answer t u w.0 a.0 w.1 (loses-mapping g d handle p r.1.1) (here.st.domains.words (dom_at k t).0 p.gref.0 w.1))
  goes (Unpin p (holders.Leg n)) (seat_steps.Entry t y (Unpinned b u)) e r a w st says ok =
      subst (λ (z : SeatStep). Agree s k (unpins d p (holders.Leg n) Nothing answer ∷ g) ((i, z) ∷ h)) (λ j. seat_steps.Entry t (sym a.1 j) (Unpinned (sym a.2 j) u))
      (gives-back c s k g h i is limits agree inside p (holders.Leg n) Nothing answer t u w.0 a.0 w.1 (leg-lost s g here.core.domains d cl.request (values cl) (reverse cl.steps) here.phase step p n here.here r.1) (here.st.domains.words (dom_at k t).0 p.gref.0 w.1))
  goes (StoreBody q body_word n) (seat_steps.Entry t y (StoredBody b m)) e r a w st says ok =
      subst (λ (z : SeatStep). Agree s k (stepped d (StoreBody q body_word n) Nothing answer ∷ g) ((i, z) ∷ h)) (λ j. seat_steps.Entry (sym a.0 j) (sym a.1 j) (StoredBody (sym a.2 j) (sym a.3 j))) (stores-body c s k g h i is limits agree inside q body_word n Nothing answer w)
  goes (StoreHeader version frames) (Header t (header.Stored n)) e r a w st says ok =
      subst (λ (z : SeatStep). Agree s k (stepped d (StoreHeader version frames) Nothing answer ∷ g) ((i, z) ∷ h)) (λ j. Header (sym a.0 j) (header.Stored (sym a.1 j))) (stores-header c s k g h i is limits agree inside version frames Nothing answer)
  goes (Exchange q looked change) (seat_steps.Entry t y (Changed b v n u)) e r a w st says ok =
      let fits = here.st.domains.words d.0 q.0 w in
      let safe : IsSafeChange g d.0 q.0 change = subst (λ (z : Step). IsSafe s g (stepped d z Taken answer)) e (right Taken ok) in
      let found : word_after k h (place i q.0 0) ≡ looked = (λ j. word_after k h (place (sym a.0 j) (sym a.1 j) 0)) ∙ (sym says ∙ a.3) in
      subst (λ (z : SeatStep). Agree s k (exchanged d q looked change answer ∷ g) ((i, z) ∷ h))
      ((λ j. seat_steps.Entry (sym a.0 j) (sym a.1 j) (Changed (sym a.2 j) (sym a.3 j) (changed_word (sym a.2 j) (last_at k (sym a.0 j) (sym a.1 j) h) (sym a.3 j)) (changed (sym a.2 j) (last_at k (sym a.0 j) (sym a.1 j) h)))) ∙ (λ j. seat_steps.Entry t y (Changed b v (sym st.0 j) (sym st.1 j))))
      (changes-entry c s k g h i is limits agree inside q looked change answer w fits (turned q looked change r) (idle q change safe) found)
  goes (Exchange q looked change) (seat_steps.Entry t y (ChangeMissed b v f n)) e r a w st says ok = quiet c s k g h i is limits agree inside (stepped d (Exchange q looked change) (Missed n) answer) (seat_steps.Entry t y (ChangeMissed b v f n)) (record { changes = λ z. refl; pins = λ before ps. refl; unpins = λ ps. refl }) refl (λ z body_word. refl) (λ z. refl) tt
  goes (call_steps.Read dom frame off len) x e r a w st says ok = absurd w
  goes (call_steps.Write dom frame off len) x e r a w st says ok = absurd w
  goes (call_steps.Copy from to len) x e r a w st says ok = absurd w
  goes z x e r a w st says ok = absurd a

pub step-kept : StepsKeepAgreement
step-kept c may k g h i cl step x answer is limits inside reached agree named call next within the stores says right =
    let s = setting_of c may in let d = dom_at k i in let here = stands-here s g d cl step reached named call next in
    goes c may k g h i is limits inside agree answer cl step here (λ seen ok. of-safe s g (stepped d step seen answer) step seen (open_call g d.0) ok) step x refl here.here.rests the within stores says right

-- the pins are on entries of the run

abbrev pub IsBounded : Layout → HeldPin → Type 0
IsBounded k p = HasDomain k p.dom × (p.gref.0 < TABLE_ENTRIES)

abbrev pub AreBounded : Layout → History → Type 0
AreBounded k g = All (λ (q : Pin). IsBounded k q.held) (live g)

pub bounded-same : (k : Layout) (g new : History) → live new ≡ live g → AreBounded k g → AreBounded k new
bounded-same k g new e a = subst (All (λ (q : Pin). IsBounded k q.held)) (sym e) a

pub bounded-quiet : (k : Layout) (g : History) (item : Item) → KeepsWords item → AreBounded k g → AreBounded k (item ∷ g)
bounded-quiet k g item q a = bounded-same k g (item ∷ g) (live-kept item g q) a

pub bounded-step : (k : Layout) (g : History) (d : DomId) (step : Step) (seen : Observation) (answer : Option Answer) → IsWithin k step → AreBounded k g → AreBounded k (stepped d step seen answer ∷ g)
bounded-step k g d (LookHeader dom) seen answer w a = bounded-quiet k g _ (record { changes = λ z. refl; pins = λ before ps. refl; unpins = λ ps. refl }) a
bounded-step k g d (LookControl dom gref) seen answer w a = bounded-quiet k g _ (record { changes = λ z. refl; pins = λ before ps. refl; unpins = λ ps. refl }) a
bounded-step k g d (LookBody dom gref body_word) seen answer w a = bounded-quiet k g _ (record { changes = λ z. refl; pins = λ before ps. refl; unpins = λ ps. refl }) a
bounded-step k g d (call_steps.Pin p) Taken answer w a = subst (All (λ (q : Pin). IsBounded k q.held)) (sym (pinned-live g d p answer)) (All-push (λ (q : Pin). IsBounded k q.held) (live g) (new_pin g d p answer) a w)
bounded-step k g d (call_steps.Pin p) seen answer w a = bounded-quiet k g _ (record { changes = λ z. refl; pins = λ before ps. refl; unpins = λ ps. refl }) a
bounded-step k g d (Unpin p holder) seen answer w a = subst (All (λ (q : Pin). IsBounded k q.held)) (sym (unpinned-live g d p holder seen answer)) (all-without (λ (q : Pin). IsBounded k q.held) d.0 holder (live g) a)
bounded-step k g d (StoreBody gref body_word word) seen answer w a = bounded-quiet k g _ (record { changes = λ z. refl; pins = λ before ps. refl; unpins = λ ps. refl }) a
bounded-step k g d (StoreHeader version frames) seen answer w a = bounded-quiet k g _ (record { changes = λ z. refl; pins = λ before ps. refl; unpins = λ ps. refl }) a
bounded-step k g d (Exchange gref looked change) Taken answer w a = bounded-same k g _ (exchanged-live g d gref looked change answer) a
bounded-step k g d (Exchange gref looked change) seen answer w a = bounded-quiet k g _ (record { changes = λ z. refl; pins = λ before ps. refl; unpins = λ ps. refl }) a
bounded-step k g d (call_steps.Read dom frame off len) seen answer w a = absurd w
bounded-step k g d (call_steps.Write dom frame off len) seen answer w a = absurd w
bounded-step k g d (call_steps.Copy from to len) seen answer w a = absurd w
