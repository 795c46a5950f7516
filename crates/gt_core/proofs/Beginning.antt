-- After a beginning the core still represents a history.
use Rattle.gt_core.proofs.Words.{arith, ◌≤◌, ◌≡◌, ◌≢◌, ◌<◌, ◌+◌, inl, ℕ, refl, true, false, List, [], ◌∷◌, length}
use Rattle.gt_core.proofs.Words.{Option, Some, None, sym, ap, ◌∙◌, subst, get_or, set, reverse, eqb-true}
use Rattle.gt_core.proofs.Words.{slice_get_read, position-Some, ◌==◌, is_some, position, slice_get, domain_of, DomId}
use Rattle.gt_core.proofs.Words.{Header, HeldPin, Request, OpenRequest, Observation, CallResult, Done, Call, Phase}
use Rattle.gt_core.proofs.Words.{asked, begun_of, bytes_given_by, CallerKnowledge, first, begun, knowledge_of}
use Rattle.gt_core.proofs.Words.{action_at, StandsAt, held_in, pins_at, GoesOnWith, Goes, Starts, Nothing, Step, Action}
use Rattle.gt_core.proofs.Words.{Rests, CallPins, most_steps, steps_left, Item, Began, Answer, OpenCall, State}
use Rattle.gt_core.proofs.Words.{state_of, kept_by, with_open_call, History, Setting, table_at, known_at, Underway}
use Rattle.gt_core.proofs.Words.{open_call, legs_at, one_if_mapped, stood, AnsweredBy, GivesValue, refusal_in}
use Rattle.gt_core.proofs.Words.{refusal_of, IsRight, IsClean, phase_refusal, FitsAsked, PhaseStands, OpenAgrees}
use Rattle.gt_core.proofs.Words.{CallAgrees, FitsGiven, GivenAgrees, StateStands, StateAgrees, DomainsStand, OpensAs}
use Rattle.gt_core.proofs.Words.{numbered, misses, ◌^◌, SpellsItsEntry, first_phase, IsAt, pins_by_call, steps_to_come}
use Rattle.gt_core.proofs.Words.{asks_memory, WantsMemory, IsOpenCall, answer_of, cond_both}
use Rattle.gt_model.specs.declared.action.Action.TheVariants as actions
use Rattle.gt_core.{specs.Standing.IsMapping, proofs.AgreementKept.KeepsEntries, proofs.AgreementKept.known-same}
use Rattle.gt_core.{proofs.AgreementKept.open_call-own, proofs.AgreementKept.stood-own}
use Rattle.gt_core.{proofs.AgreementKept.given-none, proofs.AgreementKept.quiet-stands, proofs.Rows.has_id}
use Rattle.gt_core.{proofs.Rows.found, proofs.Rows.not-found, proofs.Rows.state_of-set}
use Rattle.gt_model.proofs.Observers.{KeepsKnown, kept-known, kept-legs}
use Rattle.gt_calls.specs.declared.asking.Judged.TheVariants as judgements
use Rattle.gt_model.specs.declared.request.Request.TheVariants as requests

-- beginnings

abbrev pub began : DomId → Request → Option Answer → Item
began dom request answer = record { actor = dom; happened = Began request; answer = answer }

began-keeps : (dom : DomId) (request : Request) (answer : Option Answer) → one_if_mapped answer ≡ 0 → KeepsKnown (began dom request answer)
began-keeps dom request answer e = record { changes = λ r. refl; pins = λ before ps. refl; unpins = λ pins. refl; maps = e }

began-entries : (dom : DomId) (request : Request) (answer : Option Answer) → KeepsEntries (began dom request answer)
began-entries dom request answer = record { changes = λ r. refl; stores = λ r which. refl; header = refl }

pub call-none : (s : Setting) (h : History) (id : DomId) (o : Option OpenCall) (c : Option Underway) → o ≡ None → CallAgrees s h id o c → (c ≡ None) × (legs_at h id.0 ≡ [])
call-none s h id o c e a = grind arith

pub call-some : (s : Setting) (h : History) (id : DomId) (o : Option OpenCall) (c : Option Underway) → is_some o ≡ true → CallAgrees s h id o c → c ≢ None
call-some s h id o c e a n = grind arith

-- an opened call

-- the call holds nothing, and no rule applies to it in this phase
first-fine : (k : CallerKnowledge) (d : DomId) (r : OpenRequest) → begun k d r ≡ None → (held_in (first_phase k d r) ≡ []) × (phase_refusal (first_phase k d r) ≡ None)
first-fine k d r e = grind arith

first-place : (s : Setting) (h : History) (d : DomId) (r : OpenRequest) → begun (known_at s h d) d r ≡ None → PhaseStands s h d r [] (first_phase (known_at s h d) d r)
unfolding misses
first-place s h d r e = grind arith

clean-nothing : (p : Phase) → IsClean p []
clean-nothing p = grind arith

-- a call keeps the bytes that its request passes
kept-given : (request : Request) → kept_by (asked request) (bytes_given_by request) ≡ bytes_given_by request
kept-given request = grind arith

-- if no rule applies to it, they end inside a frame
given-fits : (k : CallerKnowledge) (d : DomId) (request : Request) → begun_of k d request ≡ None → FitsGiven (asked request) (bytes_given_by request)
given-fits k d request e = grind arith

-- a call that was just begun has the bytes of its request
given-begins : (i : Item) (h : History) (d : DomId) (request : Request) (given : List ℕ)
    → open_call (i ∷ h) d.0 ≡ Some (record { request = asked request; given = bytes_given_by request; steps = [] }) → given ≡ bytes_given_by request → FitsGiven (asked request) (bytes_given_by request)
    → GivenAgrees (i ∷ h) d.0 given
given-begins i h d request given now same fits = grind arith

-- the phase of a call
pub is-at : (k : CallerKnowledge) (call : Call) (shown : List Observation) (p : Phase) → call.phase ≡ Some p → IsAt k call shown → StandsAt k call.caller call.request shown p
is-at k call shown p e a = subst (λ (c : Call). IsAt k c shown) (ap (λ (o : Option Phase). record call { phase = o }) e) a

pub to-come : (call : Call) (p : Phase) → call.phase ≡ Some p → steps_to_come call ≡ steps_left p
to-come call p e = ap (λ (o : Option Phase). steps_to_come (record call { phase = o })) e

pub pins-there : (call : Call) (p : Phase) → call.phase ≡ Some p → pins_by_call call ≡ pins_at p
pins-there call p e = ap (λ (o : Option Phase). pins_by_call (record call { phase = o })) e

begin-opens : (s : Setting) (h : History) (d : State) (request : Request) (o : OpenCall) → FitsAsked o.call.request → StateStands s h d → d.underway ≡ None
    → IsOpenCall (knowledge_of s.domains s.first_generation s.may d.own d.header d.mappings) d.id request o
    → IsRight s h (began d.id request None)
    × CallAgrees s (began d.id request None ∷ h) d.id (Some o) (open_call (began d.id request None ∷ h) d.id.0)
    × GivenAgrees (began d.id request None ∷ h) d.id.0 (kept_by o.call.request (bytes_given_by request))
begin-opens s h d request o fits a closed op = let i = began d.id request None in
    let keeps = began-keeps d.id request None refl in let r = asked request in let was = known-same s h d a in
    let still = was ∙ sym (kept-known s i h d.id keeps refl) in let k = known_at s (i ∷ h) d.id in
    let unanswered : begun_of (known_at s h d.id) d.id request ≡ None = ap (λ (k : CallerKnowledge). begun_of k d.id request) (sym was) ∙ op.unanswered in
    let said : SpellsItsEntry (table_at s h d.id) request = subst (λ (x : Header). SpellsItsEntry x request) a.header op.said in
    let none : begun k d.id r ≡ None = ap (λ (k : CallerKnowledge). begun k d.id r) (sym still) ∙ op.none in
    let fair : stood s (i ∷ h) d.id.0 ≡ None = stood-own s i h ∙ ap refusal_in unanswered in
    let empty = call-none s h d.id d.underway (open_call h d.id.0) closed a.call in
    let here : o.call.phase ≡ Some (first_phase k d.id r) = op.phase ∙ ap (λ (k : CallerKnowledge). Some (first_phase k d.id r)) still in
    let stands : StandsAt k o.call.caller o.call.request [] (first_phase k d.id r) = is-at k o.call [] (first_phase k d.id r) here (subst (λ (k : CallerKnowledge). IsAt k o.call []) still op.at) in
    let few : steps_left (first_phase k d.id r) ≤ most_steps r = subst (λ (n : ℕ). n ≤ most_steps r) (to-come o.call (first_phase k d.id r) here) op.few in
    let agrees : OpenAgrees s (i ∷ h) d.id o (record { request = r; given = bytes_given_by request; steps = [] }) = record {
      caller = op.caller;
      asks = op.asks;
      phase = first_phase k d.id r;
      here = here;
      at = subst (λ (z : DomId). StandsAt k z r [] (first_phase k d.id r)) op.caller (subst (λ (z : OpenRequest). StandsAt k o.call.caller z [] (first_phase k d.id r)) op.asks stands);
      acts = ap (λ (k : CallerKnowledge). action_at d.id (first_phase k d.id r)) (sym still) ∙ op.acts;
      follows = subst (λ (k : CallerKnowledge). GoesOnWith k d.id r [] (actions.Step o.step)) still op.follows;
      rests = subst (λ (z : CallPins). Rests k d.id r z [] (actions.Step o.step)) (pins-there o.call (first_phase k d.id r) here) (subst (λ (k : CallerKnowledge). Rests k d.id r (pins_by_call o.call) [] (actions.Step o.step)) still op.rests);
      place = first-place s (i ∷ h) d.id r none;
      fair = fair ∙ sym (first-fine k d.id r none).1;
      fits = subst FitsAsked op.asks fits;
      clean = clean-nothing (first_phase k d.id r);
      held = kept-legs i h d.id.0 keeps ∙ empty.1 ∙ sym (ap (λ (l : List HeldPin). numbered 0 (reverse l)) (first-fine k d.id r none).0);
      few = (omega arith);
    } in (
      (empty.0, subst (λ (v : Option CallResult). AnsweredBy s h d.id r None false v None (stood s (i ∷ h) d.id.0)) (sym unanswered) (inl fair), λ e. said),
      subst (λ (c : Option Underway). CallAgrees s (i ∷ h) d.id (Some o) c) (sym (open_call-own i h)) agrees,
      given-begins i h d.id request (kept_by o.call.request (bytes_given_by request)) (open_call-own i h) (ap (λ (z : OpenRequest). kept_by z (bytes_given_by request)) op.asks ∙ kept-given request) (given-fits (known_at s h d.id) d.id request unanswered),
    )

-- a call that is answered at once

pub plain-unmapped : (v : CallResult) → one_if_mapped (Some (answer_of v)) ≡ 0
plain-unmapped v = grind arith

pub plain-refusal : (v : CallResult) → refusal_of (answer_of v) ≡ refusal_in (Some v)
plain-refusal v = grind arith

-- what holds for a result, if there is one

abbrev OnVerdict : (CallResult → Type 0) → Option CallResult → Type 0
OnVerdict Q None = Unit {0}
OnVerdict Q (Some v) = Q v

-- the value of a call at its beginning, or none, by its request
abbrev Fits : Setting → History → DomId → OpenRequest → CallResult → Type 0
Fits s h d r v = GivesValue s h d r None (answer_of v)

-- the value of a call that is answered at its beginning
value-fits : (s : Setting) (h : History) (k : CallerKnowledge) (d : DomId) (request : Request) → k.header ≡ table_at s h d → OnVerdict (Fits s h d (asked request)) (begun_of k d request)
value-fits s h k d (requests.Revoke gref) same = grind arith
value-fits s h k d (requests.Withdraw gref) same = grind arith
value-fits s h k d request same = grind arith

begin-done : (s : Setting) (h : History) (d : State) (request : Request) (v : CallResult) → StateStands s h d → d.underway ≡ None
    → begun_of (knowledge_of s.domains s.first_generation s.may d.own d.header d.mappings) d.id request ≡ Some v
    → IsRight s h (began d.id request (Some (answer_of v)))
    × CallAgrees s (began d.id request (Some (answer_of v)) ∷ h) d.id d.underway (open_call (began d.id request (Some (answer_of v)) ∷ h) d.id.0)
    × GivenAgrees (began d.id request (Some (answer_of v)) ∷ h) d.id.0 d.given
begin-done s h d request v a closed op = let i = began d.id request (Some (answer_of v)) in
    let keeps = began-keeps d.id request (Some (answer_of v)) (plain-unmapped v) in let was = known-same s h d a in
    let at_once : begun_of (known_at s h d.id) d.id request ≡ Some v = ap (λ (k : CallerKnowledge). begun_of k d.id request) (sym was) ∙ op in
    let against : stood s (i ∷ h) d.id.0 ≡ refusal_in (Some v) = stood-own s i h ∙ ap refusal_in at_once in
    let empty = call-none s h d.id d.underway (open_call h d.id.0) closed a.call in
    let now : open_call (i ∷ h) d.id.0 ≡ None = open_call-own i h in (
      (
        empty.0,
        subst (λ (x : Option CallResult). AnsweredBy s h d.id (asked request) None false x (Some (answer_of v)) (stood s (i ∷ h) d.id.0)) (sym at_once)
            (plain-refusal v, plain-refusal v ∙ sym against, (subst (OnVerdict (Fits s h d.id (asked request))) at_once (value-fits s h (known_at s h d.id) d.id request refl))),
        λ e. let f : Some (answer_of v) ≡ None = e in cc,
      ),
      subst (λ (o : Option OpenCall). CallAgrees s (i ∷ h) d.id o (open_call (i ∷ h) d.id.0)) (sym closed)
          (subst (λ (c : Option Underway). CallAgrees s (i ∷ h) d.id None c) (sym now) (kept-legs i h d.id.0 keeps ∙ empty.1)),
      given-none (i ∷ h) d.id.0 d.given now,
    )

-- the four results that a beginning can have

pub begin-nowhere : (s : Setting) (h : History) (domains : List State) (dom : DomId) → position (has_id dom.0) domains ≡ None → DomainsStand s h domains → domain_of s.domains dom ≡ None
begin-nowhere s h domains dom p st = subst (λ (o : Option State). StateAgrees s h dom o) (not-found domains dom.0 p) (st.each dom)

pub agrees-found : (s : Setting) (h : History) (domains : List State) (dom : DomId) (at : ℕ) (x : State) → position (has_id dom.0) domains ≡ Some at → x ≡ get_or domains at x
    → DomainsStand s h domains → (domain_of s.domains dom ≢ None) × (x.id ≡ dom) × StateStands s h x
agrees-found s h domains dom at x p here st =
    subst (λ (o : Option State). StateAgrees s h dom o) (found domains dom.0 at x p ∙ ap (λ (y : State). Some y) (sym here)) (st.each dom)

pub begin-busy : (s : Setting) (h : History) (domains : List State) (dom : DomId) (at : ℕ) (x : State) → position (has_id dom.0) domains ≡ Some at → x ≡ get_or domains at x
    → is_some x.underway ≡ true → DomainsStand s h domains → (domain_of s.domains dom ≢ None) × (open_call h dom.0 ≢ None)
begin-busy s h domains dom at x p here busy st = let a = agrees-found s h domains dom at x p here st in
    (a.0, subst (λ (d : DomId). open_call h d.0 ≢ None) a.1 (call-some s h x.id x.underway (open_call h x.id.0) busy a.2.call))

pub closed-from : (o : Option OpenCall) → is_some o ≡ false → o ≡ None
closed-from o e = grind arith

pub begin-answers : (s : Setting) (h : History) (domains : List State) (dom : DomId) (at : ℕ) (x : State) (request : Request) (v : CallResult) (y : Answer) → y ≡ answer_of v
    → position (has_id dom.0) domains ≡ Some at → x ≡ get_or domains at x → is_some x.underway ≡ false
    → begun_of (knowledge_of s.domains s.first_generation s.may x.own x.header x.mappings) dom request ≡ Some v → DomainsStand s h domains
    → (domain_of s.domains dom ≢ None) × IsRight s h (began dom request (Some y)) × DomainsStand s (began dom request (Some y) ∷ h) domains
begin-answers s h domains dom at x request v y e p here idle op st = let a = agrees-found s h domains dom at x p here st in
    let f = found domains dom.0 at x p ∙ ap (λ (z : State). Some z) (sym here) in
    let Both : DomId → Answer → Type 0 = λ d z. IsRight s h (began d request (Some z)) × DomainsStand s (began d request (Some z) ∷ h) domains in
    let both = subst (λ (d : DomId). begun_of (knowledge_of s.domains s.first_generation s.may x.own x.header x.mappings) d request ≡ Some v → state_of domains d.0 ≡ Some x → Both d y) a.1
    (λ op g. let b = begin-done s h x request v a.2 (closed-from x.underway idle) op in subst (Both x.id) (sym e) (
      b.0,
      quiet-stands s (began x.id request (Some (answer_of v))) h domains domains x x.underway x.given (began-entries x.id request (Some (answer_of v))) (began-keeps x.id request (Some (answer_of v)) (plain-unmapped v))
          refl st g a.2 (λ q. (cond_both (x.id.0 == q) (Some x) (state_of domains q) (λ o. state_of domains q ≡ o) (λ w. ap (state_of domains) (sym (eqb-true x.id.0 q w)) ∙ g) (λ w. refl))) b.1 b.2,
    )) op f in (a.0, both.0, both.1)

pub begin-opened : (s : Setting) (h : History) (domains : List State) (dom : DomId) (at : ℕ) (x : State) (request : Request) (o : OpenCall)
    → FitsAsked o.call.request → position (has_id dom.0) domains ≡ Some at → x ≡ get_or domains at x → is_some x.underway ≡ false
    → OpensAs (knowledge_of s.domains s.first_generation s.may x.own x.header x.mappings) dom request (judgements.Open o) → DomainsStand s h domains
    → (domain_of s.domains dom ≢ None) × IsRight s h (began dom request None) × DomainsStand s (began dom request None ∷ h) (set domains at (with_open_call o (kept_by o.call.request (bytes_given_by request)) x))
begin-opened s h domains dom at x request o fits p here idle op st =
    let a = agrees-found s h domains dom at x p here st in
    let f = found domains dom.0 at x p ∙ ap (λ (y : State). Some y) (sym here) in
    let places = position-Some (has_id dom.0) domains at x p in
    let both = subst (λ (d : DomId). OpensAs (knowledge_of s.domains s.first_generation s.may x.own x.header x.mappings) d request (judgements.Open o) → state_of domains d.0 ≡ Some x
    → ((k : ℕ) → k < at → has_id d.0 (get_or domains k x) ≡ false)
    → IsRight s h (began d request None) × DomainsStand s (began d request None ∷ h) (set domains at (with_open_call o (kept_by o.call.request (bytes_given_by request)) x))) a.1
    (λ op g apart. let b = begin-opens s h x request o fits a.2 (closed-from x.underway idle) op in (
      b.0,
      quiet-stands s (began x.id request None) h domains (set domains at (with_open_call o (kept_by o.call.request (bytes_given_by request)) x)) x (Some o) (kept_by o.call.request (bytes_given_by request)) (began-entries x.id request None) (began-keeps x.id request None refl)
          refl st g a.2 (λ q. state_of-set domains at x (with_open_call o (kept_by o.call.request (bytes_given_by request)) x) q places.0 (sym here) refl apart) b.1 b.2,
    )) op f (λ k below. places.2 k below) in (a.0, both.0, both.1)

pub place-at : (domains : List State) (d at : ℕ) (x : State) → position (has_id d) domains ≡ Some at → x ≡ get_or domains at x → slice_get domains at ≡ Some x
place-at domains d at x p here = slice_get_read domains (length domains) at x refl (position-Some (has_id d) domains at x p).0 here

-- a tick without a call
pub tick-idle : (s : Setting) (h : History) (domains : List State) (dom : DomId) (at : ℕ) (x : State) → position (has_id dom.0) domains ≡ Some at → x ≡ get_or domains at x
    → x.underway ≡ None → DomainsStand s h domains → (domain_of s.domains dom ≢ None) × (open_call h dom.0 ≡ None)
tick-idle s h domains dom at x p here closed st = let a = agrees-found s h domains dom at x p here st in
    (a.0, subst (λ (d : DomId). open_call h d.0 ≡ None) a.1 (call-none s h x.id x.underway (open_call h x.id.0) closed a.2.call).0)

-- a beginning that may fail with Memory
pub begin-wants : (s : Setting) (h : History) (domains : List State) (dom : DomId) (at : ℕ) (x : State) (request : Request) (o : OpenCall)
    → asks_memory o.call.request ≡ true → position (has_id dom.0) domains ≡ Some at → x ≡ get_or domains at x → is_some x.underway ≡ false
    → OpensAs (knowledge_of s.domains s.first_generation s.may x.own x.header x.mappings) dom request (judgements.Open o) → DomainsStand s h domains → WantsMemory s h dom request
begin-wants s h domains dom at x request o asks p here idle op st =
    let a = agrees-found s h domains dom at x p here st in (
      ap asks_memory (sym op.asks) ∙ asks,
      a.0,
      subst (λ (d : DomId). open_call h d.0 ≡ None) a.1 (call-none s h x.id x.underway (open_call h x.id.0) (closed-from x.underway idle) a.2.call).0,
      subst (λ (d : DomId). begun_of (known_at s h d) dom request ≡ None) a.1 (ap (λ (k : CallerKnowledge). begun_of k dom request) (sym (known-same s h x a.2)) ∙ op.unanswered),
    )

-- a map that opens has a serial left
pub serial-left : (k : CallerKnowledge) (d : DomId) (request : Request) (r : OpenRequest) → r ≡ asked request → begun k d (asked request) ≡ None → IsMapping (Some r) → k.maps_answered + 1 < 2 ^ 64
serial-left k d request r same none m = grind arith

-- a call that starts and makes its first step is open
pub opened : (k : CallerKnowledge) (dom : DomId) (request : Request) (first new : Call) (action : Action) (step : Step) → Starts k dom request (judgements.Open first) → Goes k first Nothing new action → action ≡ actions.Step step → new.caller ≡ first.caller → new.request ≡ first.request
    → IsOpenCall k dom request (record { call = new; step = step })
opened k dom request first new action step starts goes is by asked_as = grind arith

-- it makes a step
pub not-done : (k : CallerKnowledge) (dom : DomId) (request : Request) (first new : Call) (action : Action) (v : CallResult) → Starts k dom request (judgements.Open first) → Goes k first Nothing new action → action ≡ Done v → ⊥
not-done k dom request first new action v starts goes is = grind arith
