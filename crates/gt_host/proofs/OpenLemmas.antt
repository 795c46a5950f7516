-- The calls that are open, by the history.
use Rattle.std.proofs.Common.{◌≡◌, ◌≢◌, ◌⊎◌, ◌<◌, ◌≤◌, ◌+◌, ℕ, zero, suc, Bool, cond, List, [], ◌∷◌, ◌++◌, length}
use Rattle.std.proofs.Common.{replicate, Option, None, Some, refl, ap, sym, subst, ◌∙◌, inl, inr, arith}
use Rattle.std.proofs.Common.{length-append}
use Rattle.std.proofs.lemmas.Bool.{eq-eqb, ne_eqb}
use Rattle.gt_types.specs.Names.{domain_of}
use Rattle.gt_types.specs.declared.DomId.{DomId}
use Rattle.gt_model.specs.History.{History, Setting, Underway, open_call, underway_after}
use Rattle.gt_model.specs.Legal.{MayDo, StepsRight, StepsRightIn, grown, LegalAfter, history_after, most_steps}
use Rattle.gt_model.specs.declared.bounds.TheConstants.{MAX_STEPS}
use Rattle.gt_core.specs.Standing.{CoreStands}
use Rattle.gt_core.specs.Acting.{begun_element}
use Rattle.gt_core.specs.States.{CoreState}
use Rattle.gt_model.specs.declared.request.Request.{Request}
use Rattle.gt_model.specs.declared.request.OpenRequest.{OpenRequest}
use Rattle.gt_model.specs.declared.request.OpenRequest.TheVariants as asks
use Rattle.gt_model.specs.Asking.{asked, bytes_given_by}
use Rattle.gt_model.specs.declared.action.Observation.{Observation}
use Rattle.gt_model.specs.declared.action.Step.{Step}
use Rattle.gt_model.specs.declared.trace.Answer.{Answer}
use Rattle.gt_model.specs.declared.trace.Item.{Item}
use Rattle.gt_model.specs.declared.trace.ItemEvent.{ItemEvent}
use Rattle.gt_model.specs.declared.trace.ItemEvent.TheVariants.{Began, Stepped}
use Rattle.gt_model.specs.declared.trace.Event.TheVariants.{Begin, Tick}
use Rattle.gt_model.specs.declared.trace.Element.{Element}
use Rattle.gt_model.specs.declared.trace.Element.TheVariants.{Busy, Idle, NoDomain}
use Rattle.gt_model.specs.declared.trace.Element.TheVariants as elements
use Rattle.gt_core.specs.declared.core_state.Begun.{Begun}
use Rattle.gt_core.specs.declared.core_state.Begun.TheVariants as beginnings
use Rattle.gt_script_runs.specs.Runs.{answer_in, AnswerNothing}
use Rattle.gt_host.specs.Ticking.{TicksTo}

-- an item of the domain
pub own_call : (i : Item) (h : History) (d : ℕ) → i.actor.0 ≡ d → open_call (i ∷ h) d ≡ underway_after i (open_call h d)
unfolding open_call
own_call i h d own = ap (λ (b : Bool). cond b (underway_after i (open_call h d)) (open_call h d)) (eq-eqb i.actor.0 d own)

-- an item of another domain
pub other_call : (i : Item) (h : History) (d : ℕ) → (i.actor.0 ≡ d → ⊥) → open_call (i ∷ h) d ≡ open_call h d
unfolding open_call
other_call i h d apart = ap (λ (b : Bool). cond b (underway_after i (open_call h d)) (open_call h d)) (ne_eqb i.actor.0 d apart)

-- the domain has this call open, and so many of its steps are made
pub record HasOpen (h : History) (d : ℕ) (request : OpenRequest) (count : ℕ) : Type 0 where
  pub call : Underway
  pub is : open_call h d ≡ Some call
  pub asks : call.request ≡ request
  pub made : length call.steps ≡ count

stepped_once : (steps : List (Step × Observation)) (p : Step × Observation) (count : ℕ) → length steps ≡ count → length (steps ++ p ∷ []) ≡ count + 1
stepped_once steps p count e = length-append steps (p ∷ []) ∙ ap (λ (n : ℕ). n + 1) e

-- a step of an open call that is not answered
step_stays : (s : Setting) (h : History) (actor d : DomId) (step : Step) (seen : Observation) (c : Underway) (request : OpenRequest) (count : ℕ) → actor ≡ d → open_call h d.0 ≡ Some c → c.request ≡ request → length c.steps ≡ count
    → StepsRightIn s h (record { actor = actor; happened = Stepped step seen; answer = None }) step seen (open_call h actor.0)
    → HasOpen (record { actor = actor; happened = Stepped step seen; answer = None } ∷ h) d.0 request (count + 1) × (count + 1 < most_steps request)
step_stays s h actor d step seen c request count own is asks made right =
    let here : open_call h actor.0 ≡ Some c = ap (λ (t : DomId). open_call h t.0) own ∙ is in
    let i : Item = record { actor = actor; happened = Stepped step seen; answer = None } in
    let steps : StepsRight s h i step seen c = subst (λ (o : Option Underway). StepsRightIn s h i step seen o) here right in
    let soon : length c.steps + 1 < most_steps c.request = steps.soon refl in (
      record {
        call = record { request = c.request; given = c.given; steps = c.steps ++ (step, seen) ∷ [] };
        is = own_call i h d.0 (ap (λ (t : DomId). t.0) own) ∙ ap (λ (o : Option Underway). underway_after i o) is;
        asks = asks;
        made = stepped_once c.steps (step, seen) count made;
      },
      subst (λ (n : ℕ). n + 1 < most_steps request) made (subst (λ (r : OpenRequest). length c.steps + 1 < most_steps r) asks soon),
    )

item_stays : (s : Setting) (h : History) (d : DomId) (actor : DomId) (happened : ItemEvent) (answer : Option Answer) (request : OpenRequest) (count : ℕ) → HasOpen h d.0 request count → answer ≡ None
    → MayDo s h (Tick d) (elements.Item (record { actor = actor; happened = happened; answer = answer }))
    → HasOpen (record { actor = actor; happened = happened; answer = answer } ∷ h) d.0 request (count + 1) × (count + 1 < most_steps request)
item_stays s h d actor (Began other) answer request count open_now none may = absurd may.1.1
item_stays s h d actor (Stepped step seen) None request count open_now none may =
    step_stays s h actor d step seen open_now.call request count may.1.0 open_now.is open_now.asks open_now.made may.2
item_stays s h d actor (Stepped step seen) (Some answer) request count open_now none may = cc

Some-None : {A : Type 0} (o : Option A) (x : A) → o ≡ Some x → o ≡ None → ⊥
Some-None o x p q = cc

-- a tick of an open call that does not answer it
tick_stays : (s : Setting) (h : History) (d : DomId) (x : Element) (request : OpenRequest) (count : ℕ) → domain_of s.domains d ≢ None → HasOpen h d.0 request count → answer_in x ≡ None → MayDo s h (Tick d) x
    → HasOpen (grown h x) d.0 request (count + 1) × (count + 1 < most_steps request)
tick_stays s h d NoDomain request count known open_now none may = absurd (known may)
tick_stays s h d Busy request count known open_now none may = absurd may
tick_stays s h d Idle request count known open_now none may = absurd (Some-None _ open_now.call open_now.is may.1)
tick_stays s h d (elements.Item i) request count known open_now none may = item_stays s h d i.actor i.happened i.answer request count open_now none may

-- ticks of an open call that do not answer it: it stays open, and has steps left
pub ticks_stay : (s : Setting) (h : History) (d : DomId) (n : ℕ) (xs : List Element) (request : OpenRequest) (count : ℕ) → domain_of s.domains d ≢ None → HasOpen h d.0 request count → AnswerNothing xs
    → LegalAfter s h (replicate n (Tick d)) xs → HasOpen (history_after h xs) d.0 request (count + n) × ((n ≡ 0) ⊎ (count + n < most_steps request))
ticks_stay s h d zero [] request count known open_now quiet legal = (subst (λ (k : ℕ). HasOpen h d.0 request k) (omega arith) open_now, inl refl)
ticks_stay s h d zero (x ∷ xs) request count known open_now quiet legal = absurd legal
ticks_stay s h d (suc n) [] request count known open_now quiet legal = absurd legal
ticks_stay s h d (suc n) (x ∷ xs) request count known open_now quiet legal =
    let once = tick_stays s h d x request count known open_now quiet.0 legal.0 in
    let more = ticks_stay s (grown h x) d n xs request (count + 1) known once.0 quiet.1 legal.1 in
    let same : count + 1 + n ≡ count + suc n = omega arith in (
      subst (λ (k : ℕ). HasOpen (history_after (grown h x) xs) d.0 request k) same more.0,
      elim more.1 [
        | inl none ↦ inr (let few = once.1 in omega arith)
        | inr few ↦ inr (omega arith)
      ],
    )

-- a call that began and is not answered at once
pub begins_open : (s : Setting) (h : History) (d : DomId) (request : Request) (said : Begun) → domain_of s.domains d ≢ None → (said ≡ beginnings.Open) ⊎ (said ≡ beginnings.NoDomain)
    → MayDo s h (Begin d request) (begun_element d request said) → HasOpen (grown h (begun_element d request said)) d.0 (asked request) 0
begins_open s h d request beginnings.Open known is may = record {
  call = record { request = asked request; given = bytes_given_by request; steps = [] };
  is = own_call (record { actor = d; happened = Began request; answer = None }) h d.0 refl;
  asks = refl;
  made = refl;
}
begins_open s h d request (beginnings.Done answer) known is may = elim is [ inl e ↦ cc | inr e ↦ cc ]
begins_open s h d request beginnings.Busy known is may = elim is [ inl e ↦ cc | inr e ↦ cc ]
begins_open s h d request beginnings.NoDomain known is may = absurd (known may)

few_steps : (request : OpenRequest) → most_steps request ≤ MAX_STEPS
few_steps (asks.Grant gref entry) = omega arith
few_steps (asks.Revoke gref) = omega arith
few_steps (asks.Withdraw gref) = omega arith
few_steps (asks.Demote gref) = omega arith
few_steps (asks.Promote gref) = omega arith
few_steps (asks.Map dom gref flags) = omega arith
few_steps (asks.Unmap handle) = omega arith
few_steps (asks.Release handle) = omega arith
few_steps (asks.Load handle off len) = omega arith
few_steps (asks.Store handle off len) = omega arith
few_steps (asks.Peek frame off len) = omega arith
few_steps (asks.Poke frame off len) = omega arith
few_steps (asks.Copy c) = omega arith
few_steps (asks.Probe c) = omega arith
few_steps (asks.SetVersion version) = omega arith
few_steps (asks.SetupTable frames) = omega arith
few_steps (asks.QuerySize dom) = omega arith
few_steps (asks.GetVersion dom) = omega arith

-- no call is without an answer after as many ticks
pub always_answered : (s : Setting) (h : History) (d : DomId) (most : ℕ) (xs : List Element) (request : OpenRequest) → most ≡ MAX_STEPS → domain_of s.domains d ≢ None → HasOpen h d.0 request 0 → AnswerNothing xs
    → LegalAfter s h (replicate most (Tick d)) xs → ⊥
always_answered s h d most xs request all known open_now quiet legal =
    let bound : most_steps request ≤ MAX_STEPS = few_steps request in
    elim (ticks_stay s h d most xs request 0 known open_now quiet legal).1 [
      | inl none ↦ omega arith
      | inr few ↦ omega arith
    ]

-- ticks of a call that has just begun come to its answer
pub unanswered : (s t : Setting) (h : History) (d : DomId) (most : ℕ) (request : OpenRequest) (mid new : CoreState) (said : Option Answer) → most ≡ MAX_STEPS → t ≡ s → domain_of s.domains d ≢ None → HasOpen h d.0 request 0
    → CoreStands s h mid → ((g : History) → CoreStands t g mid → TicksTo t g d most new said) → said ≡ None → ⊥
unanswered s t h d most request mid new said all same known open_now stands ticks none =
    let here = subst (λ (q : Setting). (g : History) → CoreStands q g mid → TicksTo q g d most new said) same ticks in
    let made : TicksTo s h d most new None = subst (λ (o : Option Answer). TicksTo s h d most new o) none (here h stands) in
    let long : made.ticks ≡ most = sym made.length_of ∙ made.comes.1 in
    always_answered s h d most made.trace request all known open_now made.comes.0
    (subst (λ (n : ℕ). LegalAfter s h (replicate n (Tick d)) made.trace) long made.happens.legal)
