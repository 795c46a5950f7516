-- Low domains whose calls name no high domain look at tables of low ones only.
use Rattle.gt_core.proofs.Words.{◌≡◌, ◌≢◌, ◌⊎◌, inl, inr, ℕ, refl, Bool, true, false, List, [], ◌∷◌, ◌++◌, Option}
use Rattle.gt_core.proofs.Words.{Some, None, cond, ap, sym, ◌∙◌, subst, ◌==◌, option_map, reverse, All, All-head}
use Rattle.gt_core.proofs.Words.{All-tail, All-nil, All-cons, eqb-true, none-some, same_Some, true≢false, gather}
use Rattle.gt_core.proofs.Words.{by_leg}
use Rattle.gt_core.proofs.Words.{DomId, Entry, HeldPin, Pin, PinHolder, asked, Request, OpenRequest}
use Rattle.gt_core.proofs.Words.{Step, Unpin, LookHeader, LookControl, LookBody}
use Rattle.gt_core.proofs.Words.{Observation, Taken, Read, Write, Action, CallerKnowledge, path, CallResult}
use Rattle.gt_core.proofs.Words.{next_to_give, length, arith}
use Rattle.gt_core.proofs.Words.{History, Setting, setting_of, Underway, open_call, known_at, live, values}
use Rattle.gt_core.proofs.Words.{pinned_by, unpinned_by, domain_of, MayDo, IsRight, LegalAfter, grown, history_after}
use Rattle.gt_core.proofs.Words.{AreAlike, KeylessItem, bare_step, Leg, PinPurpose, Mapping, Source, Dest, Phase}
use Rattle.gt_core.proofs.Words.{Storing}
use Rattle.gt_core.proofs.Words.{StoringSecond, Exchanging, Looking, Changing, Walking, Accessing, Asking, Last, Ending}
use Rattle.gt_core.proofs.Words.{IsLegFor, action_at, held_in, last_first, numbered, pins_so_far, OpenAgrees}
use Rattle.gt_core.proofs.Words.{CallAgrees, StateAgrees, State, state_of, DomainsStand, CoreStands, CoreState}
use Rattle.gt_core.specs.declared.underway.OpenCall.{OpenCall}
use Rattle.gt_core.proofs.Words.{seen_by, underway_after, underway_with, Unmap, Release, Load, Store}
use Rattle.gt_core.proofs.AlikeRuns.{bare_action, does-bare, doing}
use Rattle.gt_core.proofs.Pins.{bare_pin, bare_pins, live-bare}
use Rattle.gt_core.proofs.WithoutKeys.{bare-same, bare_asked, bare_call, bared}
use Rattle.gt_core.specs.Alike.{HappensKnown, IsOfKnown}
use Rattle.gt_core.specs.Phases.{AsksTable, PhaseStands}
use Rattle.gt_calls.specs.Legs.{leg_step}
use Rattle.gt_calls.specs.Resting.{IsCopyOf, IsOnFrom}
use Rattle.gt_calls.specs.Standing.{HasShown, IsQuiet}
use Rattle.gt_calls.specs.declared.leg.LegPhase.{LegPhase}
use Rattle.gt_calls.specs.declared.leg.LegPhase.TheVariants as leg_phases
use Rattle.gt_explore_state.proofs.GoingAlike.{like-goes-on, like-starts}
use Rattle.gt_explore_state.specs.Likeness.{AsksFit, IsLikeReached}
use Rattle.gt_model.specs.Asking.{FitsAsked}
use Rattle.gt_model.specs.FirstRule.{StepsSoFar}
use Rattle.gt_model.specs.Path.{Continuation, end_leg}
use Rattle.gt_model.specs.Legal.{actor_of}
use Rattle.gt_model.specs.declared.action.Action.TheVariants as actions
use Rattle.gt_model.specs.declared.action.HeaderQuery.{HeaderQuery}
use Rattle.gt_model.specs.declared.action.HeaderQuery.TheVariants as queries
use Rattle.gt_model.specs.declared.action.Step.TheVariants as call_steps
use Rattle.gt_model.specs.declared.entry.Entry.TheVariants.{Invalid, Page, Sub, Via}
use Rattle.gt_model.specs.declared.held.AccessPath.{AccessPath}
use Rattle.gt_model.specs.declared.held.AccessPath.TheVariants.{Direct, Own, Through}
use Rattle.gt_model.specs.declared.request.PinHolder.TheVariants as holders
use Rattle.gt_model.specs.declared.trace.Answer.{Answer}
use Rattle.gt_model.specs.declared.trace.Element.{Element}
use Rattle.gt_model.specs.declared.trace.Element.TheVariants.{Busy, Idle, NoDomain}
use Rattle.gt_model.specs.declared.trace.Element.TheVariants as elements
use Rattle.gt_model.specs.declared.trace.Event.{Event}
use Rattle.gt_model.specs.declared.trace.Event.TheVariants.{Begin, Tick}
use Rattle.gt_model.specs.declared.trace.Item.{Item}
use Rattle.gt_model.specs.declared.trace.ItemEvent.{ItemEvent}
use Rattle.gt_model.specs.declared.trace.ItemEvent.TheVariants.{Began, Stepped}
use Rattle.gt_types.specs.declared.copies.CopyArgs.{CopyArgs}
use Rattle.std.proofs.lemmas.List.Elements.{All-append}
use Rattle.gt_separation.specs.Apart.{CopiesApart, NamesLow, SharesNothing, StaysApart}
use Rattle.gt_flow.specs.Low.{NamesKnown}
use Rattle.gt_separation.specs.Separate.{AsksLow, EndsAreLow, HappensAtLow, LooksApart, low_elements}
use Rattle.gt_separation.specs.Separate.{AllAskApart, AsksApart, CopiesStayApart, RequestsKeepApart}
use Rattle.gt_separation.specs.Separate.{UnsharedDomainsMakeNoDifference, low_events}
use Rattle.gt_separation.specs.Apart.{CallCopiesHigh, CopiesHigh}
use Rattle.gt_core.proofs.Words.{EntryChange, Exchange, GrantRef, RestsOnWord, change_at, changed_entry_of, entry_at}
use Rattle.gt_model.specs.Entries.{changed_entry, with_ro}
use Rattle.gt_model.specs.declared.change.EntryChange.TheVariants.{Publish}
use Rattle.gt_model.specs.declared.change.EntryChange.TheVariants as changes
use Rattle.gt_separation.proofs.SameParts.{high-calls-make-no-difference, shares-part, step-at}
use Rattle.gt_separation.proofs.Separate.{AtLow, IsLowPart, all-unpinned, high-event, known-low, low-event, nothing-yet}
use Rattle.gt_flow.proofs.Steps.{stepped_told, tick_told, within-some}

module _ (s : Setting) (high : DomId → Bool) where
  abbrev Lo : DomId → Type 0
  Lo d = high d ≡ false

  -- ---- the leg of a call

  -- the entry of a pin that a call holds names low domains only
  abbrev HeldLow : ℕ × HeldPin → Type 0
  HeldLow l = NamesLow high l.1.entry

  -- the first end of an access path is the pin of this Via
  via-low : (source : AccessPath) (via : HeldPin)
      → All HeldLow (numbered 0 (reverse (last_first (record { source = source; dest = Direct via }))))
      → NamesLow high via.entry
  via-low Own via all = all 0 (0, via) (omega arith)
  via-low (Direct p) via all = all 1 (0, via) (omega arith)
  via-low (Through v p) via all = all 2 (0, via) (omega arith)

  on-low : (k : CallerKnowledge) (first l : Leg) (e : Entry) → NamesLow high e → IsOnFrom k first e l → Lo l.dom
  on-low k first l (Via dom ro dom2 gref) names is = subst (λ (x : Leg). Lo x.dom) (sym is) names.1
  on-low k first l e names is = absurd is

  copy-ends : (d : DomId) (r : OpenRequest) (c : CopyArgs) → IsCopyOf r c → AsksLow high d r → EndsAreLow high d c
  copy-ends d r c (inl is) asks = subst (AsksLow high d) is asks
  copy-ends d r c (inr is) asks = subst (AsksLow high d) is asks

  leg-low : (k : CallerKnowledge) (d : DomId) (r : OpenRequest) (purpose : PinPurpose) (l : Leg)
      → IsLegFor k d r purpose l → AsksLow high d r
      → All HeldLow (numbered 0 (reverse (last_first (pins_so_far purpose)))) → Lo l.dom
  leg-low k d r Mapping l is asks all =
      subst (λ (x : Leg). Lo x.dom) (sym is.leg_is) (subst (AsksLow high d) is.of_map asks)
  leg-low k d r (Source c None) l is asks all =
      subst (λ (x : Leg). Lo x.dom) (sym is.1.1) ((copy-ends d r c is.0 asks).0 is.1.0)
  leg-low k d r (Source c (Some via)) l is asks all =
      on-low k (end_leg k d c.source Read c.len) l via.entry (all 0 (0, via) (omega arith)) is.1.2
  leg-low k d r (Dest c source None) l is asks all =
      subst (λ (x : Leg). Lo x.dom) (sym is.2.1) ((copy-ends d r c is.0 asks).1 is.2.0)
  leg-low k d r (Dest c source (Some via)) l is asks all =
      on-low k (end_leg k d c.dest Write c.len) l via.entry (via-low source via all) is.2.2

  -- the step is at no table of a high domain, and an entry that it publishes names none
  abbrev IsLowStep : Step → Type 0
  IsLowStep (LookHeader dom) = Lo dom
  IsLowStep (LookControl dom gref) = Lo dom
  IsLowStep (LookBody dom gref body_word) = Lo dom
  IsLowStep (call_steps.Pin p) = Lo p.dom
  IsLowStep (Exchange gref looked (Publish entry)) = NamesLow high entry
  IsLowStep z = Unit {0}

  abbrev HappensLow : ItemEvent → Type 0
  HappensLow (Began q) = Unit {0}
  HappensLow (Stepped z v) = IsLowStep z

  at-low : (x : ItemEvent) → HappensLow x → HappensAtLow high x
  at-low (Began q) is = tt
  at-low (Stepped (LookHeader dom) v) is = is
  at-low (Stepped (LookControl dom gref) v) is = is
  at-low (Stepped (LookBody dom gref body_word) v) is = is
  at-low (Stepped (call_steps.Pin p) v) is = is
  at-low (Stepped z v) is = tt

  leg-step-low : (l : Leg) (at : LegPhase) → Lo l.dom → IsLowStep (leg_step l at)
  leg-step-low l leg_phases.Header low = low
  leg-step-low l (leg_phases.Look more) low = low
  leg-step-low l (leg_phases.Body more word) low = low
  leg-step-low l (leg_phases.Second more word body) low = low
  leg-step-low l (leg_phases.Pinning more word body second) low = low
  leg-step-low l (leg_phases.Relook more word rule) low = low

  quiet-low : (z : Step) → IsQuiet z → IsLowStep z
  quiet-low (LookHeader dom) quiet = absurd quiet
  quiet-low (LookControl dom gref) quiet = absurd quiet
  quiet-low (LookBody dom gref body_word) quiet = absurd quiet
  quiet-low (call_steps.Pin p) quiet = absurd quiet
  quiet-low (Exchange gref looked change) quiet = absurd quiet
  quiet-low z quiet = tt

  asked-low : (d : DomId) (r : OpenRequest) (dom : DomId) (question : HeaderQuery) → AsksTable d r dom question
      → AsksLow high d r → Lo dom
  asked-low d r dom queries.Size (named, is, same) asks = subst Lo (sym same) (subst (AsksLow high d) is asks)
  asked-low d r dom queries.Version (named, is, same) asks = subst Lo (sym same) (subst (AsksLow high d) is asks)

  -- an entry that a low domain publishes is the one that it asked for
  exchange-low : (k : CallerKnowledge) (grammar : Continuation) (d : DomId) (r : OpenRequest)
      (shown : List Observation) (gref : GrantRef) (looked : ℕ) (change : EntryChange) → AsksLow high d r
      → RestsOnWord k grammar d r shown gref looked change → IsLowStep (Exchange gref looked change)
  exchange-low k grammar d r shown gref looked (Publish entry) asks rests = subst (AsksLow high d) rests.0 asks
  exchange-low k grammar d r shown gref looked changes.Revoke asks rests = tt
  exchange-low k grammar d r shown gref looked changes.Withdraw asks rests = tt
  exchange-low k grammar d r shown gref looked changes.Demote asks rests = tt
  exchange-low k grammar d r shown gref looked changes.Promote asks rests = tt

  is-step : (y z : Step) → actions.Step y ≡ actions.Step z → IsLowStep y → IsLowStep z
  is-step y z same at = let e : y ≡ z = cc in subst IsLowStep e at

  ends-low : (held : List HeldPin) (verdict : CallResult) (z : Step) → next_to_give held verdict ≡ actions.Step z
      → IsLowStep z
  ends-low [] verdict z acts = absurd (let e = acts in cc)
  ends-low (p ∷ ps) verdict z acts = is-step (Unpin p (holders.Leg (length ps))) z acts tt

  -- what a call does in this phase
  phase-low : (g : History) (d : DomId) (r : OpenRequest) (grammar : Continuation) (shown : List Observation)
      (so_far : StepsSoFar) (phase : Phase) (z : Step) → Lo d → AsksLow high d r
      → HasShown (known_at s g d) grammar d r shown phase → PhaseStands s g d r so_far phase
      → All HeldLow (numbered 0 (reverse (held_in phase)))
      → action_at d phase ≡ actions.Step z → IsLowStep z
  phase-low g d r grammar shown so_far (Storing gref entry) z low asks has place all acts = is-step _ z acts tt
  phase-low g d r grammar shown so_far (StoringSecond gref entry) z low asks has place all acts = is-step _ z acts tt
  phase-low g d r grammar shown so_far (Exchanging gref looked change) z low asks has place all acts =
      is-step (Exchange gref looked change) z acts
      (exchange-low (known_at s g d) grammar d r shown gref looked change asks has)
  phase-low g d r grammar shown so_far (Looking gref change more) z low asks has place all acts =
      is-step (LookControl d gref) z acts low
  phase-low g d r grammar shown so_far (Changing gref change more looked) z low asks has place all acts =
      is-step (Exchange gref looked change) z acts
      (exchange-low (known_at s g d) grammar d r shown gref looked change asks has.0)
  phase-low g d r grammar shown so_far (Walking purpose l at) z low asks has place all acts =
      is-step (leg_step l at) z acts (leg-step-low l at (leg-low (known_at s g d) d r purpose l has.1 asks all))
  phase-low g d r grammar shown so_far (Accessing c source dest) z low asks has place all acts = is-step _ z acts tt
  phase-low g d r grammar shown so_far (Asking dom question) z low asks has place all acts =
      is-step (LookHeader dom) z acts (asked-low d r dom question place asks)
  phase-low g d r grammar shown so_far (Last step verdict) z low asks has place all acts =
      is-step step z acts (quiet-low step has.0)
  phase-low g d r grammar shown so_far (Ending pins verdict) z low asks has place all acts =
      ends-low (last_first pins) verdict z acts

  -- ---- pins of low domains

  -- a pin of a low domain is on an entry that names low domains only
  abbrev Names : Pin → Type 0
  Names q = Lo (record { 0 = q.actor }) → NamesLow high q.held.entry

  legs-named : (d : DomId) (ps : List Pin) → Lo d → All Names ps → All HeldLow (gather by_leg d.0 ps)
  unfolding gather
  legs-named d [] low all = All-nil HeldLow
  legs-named d (q ∷ qs) low all = by (q.actor == d.0) refl (legs-named d qs low (All-tail Names q qs all))
    where
      one : (x : PinHolder) → NamesLow high q.held.entry → All HeldLow (by_leg x q.held)
      one (holders.Mapping handle) names = All-nil HeldLow
      one (holders.Leg n) names = All-cons HeldLow (n, q.held) [] names (All-nil HeldLow)

      by : (b : Bool) → (q.actor == d.0) ≡ b → All HeldLow (gather by_leg d.0 qs)
          → All HeldLow (cond b (by_leg q.holder q.held) [] ++ gather by_leg d.0 qs)
      by true own rest = All-append HeldLow (by_leg q.holder q.held) (gather by_leg d.0 qs)
          (one q.holder (All-head Names q qs all
          (subst (λ (n : ℕ). Lo (record { 0 = n })) (sym (eqb-true q.actor d.0 own)) low))) rest
      by false own rest = rest

  pinned-named : (p : History) (d : DomId) (x : ItemEvent) (a : Option Answer) (ps : List Pin)
      → SharesNothing high p → (Lo d → HappensAtLow high x) → All Names (pinned_by d x a p ps)
  pinned-named p d (Stepped (call_steps.Pin q) Taken) a ps shares at =
      All-cons Names _ [] (λ low. shares q.dom q.gref.0 (at low)) (All-nil Names)
  pinned-named p d x a ps shares at = All-nil Names

  names-grow : (p : History) (i : Item) → SharesNothing high p → HappensAtLow high i.happened
      → All Names (live p) → All Names (live (i ∷ p))
  unfolding live
  names-grow p i shares at all = All-append Names (unpinned_by i.actor i.happened (live p))
      (pinned_by i.actor i.happened i.answer p (live p)) (all-unpinned s high Names i.actor i.happened (live p) all)
      (pinned-named p i.actor i.happened i.answer (live p) shares (λ low. at))

  to-bare : (ps : List Pin) → All Names ps → All Names (bare_pins ps)
  to-bare [] all = all
  to-bare (q ∷ qs) all = All-cons Names (bare_pin q) (bare_pins qs) (All-head Names q qs all)
      (to-bare qs (All-tail Names q qs all))

  from-bare : (ps : List Pin) → All Names (bare_pins ps) → All Names ps
  from-bare [] all = all
  from-bare (q ∷ qs) all = All-cons Names q qs (All-head Names (bare_pin q) (bare_pins qs) all)
      (from-bare qs (All-tail Names (bare_pin q) (bare_pins qs) all))

  names-alike : (p g : History) → AreAlike s p g → All Names (live p) → All Names (live g)
  names-alike p g alike all = from-bare (live g) (subst (All Names)
      (sym (live-bare s p alike.first) ∙ ap live (bare-same p g alike.same) ∙ live-bare s g alike.second)
      (to-bare (live p) all))

  -- ---- open calls

  module _ (Q : DomId → OpenRequest → Type 0) where
    abbrev CallAsks : DomId → Option Underway → Type 0
    CallAsks d None = Unit {0}
    CallAsks d (Some c) = Q d c.request

    abbrev HappensAsking : DomId → ItemEvent → Type 0
    HappensAsking d (Began q) = Q d (asked q)
    HappensAsking d (Stepped z v) = Unit {0}

    with-asks : (d : DomId) (x : ItemEvent) (c : Option Underway) → HappensAsking d x → CallAsks d c
        → CallAsks d (underway_with x c)
    with-asks d (Began q) c asks was = asks
    with-asks d (Stepped z v) None asks was = tt
    with-asks d (Stepped z v) (Some c) asks was = was

    after-asks : (i : Item) (c : Option Underway) → HappensAsking i.actor i.happened → CallAsks i.actor c
        → CallAsks i.actor (underway_after i c)
    after-asks i c asks was = by i.answer
      where
        by : (a : Option Answer) → CallAsks i.actor (underway_after (record i { answer = a }) c)
        by None = with-asks i.actor i.happened c asks was
        by (Some answer) = tt

    call-grows : (p : History) (i : Item) (d : DomId) → (i.actor ≡ d → HappensAsking i.actor i.happened)
        → CallAsks d (open_call p d.0) → CallAsks d (open_call (i ∷ p) d.0)
    unfolding open_call
    call-grows p i d asks was = by (i.actor.0 == d.0) refl
      where
        by : (b : Bool) → (i.actor.0 == d.0) ≡ b
            → CallAsks d (cond b (underway_after i (open_call p d.0)) (open_call p d.0))
        by true own =
            let same : i.actor ≡ d = ap {B = DomId} (λ (n : ℕ). record { 0 = n }) (eqb-true i.actor.0 d.0 own) in
            subst (λ (k : DomId). CallAsks k (underway_after i (open_call p d.0))) same
            (after-asks i (open_call p d.0) (asks same)
            (subst (λ (k : DomId). CallAsks k (open_call p d.0)) (sym same) was))
        by false own = was

  abbrev AsksOnlyLow : DomId → OpenRequest → Type 0
  AsksOnlyLow d r = AsksLow high d r

  -- each open call of a low domain names low ones only
  abbrev AllAskLow : History → Type 0
  AllAskLow p = (d : DomId) → Lo d → CallAsks AsksOnlyLow d (open_call p d.0)

  asks-bare : (d : DomId) (r q : OpenRequest) → bare_asked r ≡ bare_asked q → AsksLow high d r → AsksLow high d q
  asks-bare d r q same asks = from q (subst (AsksLow high d) same (to r asks))
    where
      to : (r : OpenRequest) → AsksLow high d r → AsksLow high d (bare_asked r)
      to (Unmap handle) asks = tt
      to (Release handle) asks = tt
      to (Load handle off len) asks = tt
      to (Store handle off len) asks = tt
      to r asks = asks

      from : (q : OpenRequest) → AsksLow high d (bare_asked q) → AsksLow high d q
      from (Unmap handle) asks = tt
      from (Release handle) asks = tt
      from (Load handle off len) asks = tt
      from (Store handle off len) asks = tt
      from q asks = asks

  -- ---- where a core is

  opened : (g : History) (xs : List State) (d : DomId) (c : Underway) → DomainsStand s g xs
      → domain_of s.domains d ≢ None → open_call g d.0 ≡ Some c → (o : OpenCall) × OpenAgrees s g d o c
  opened g xs d c st named here = by (state_of xs d.0) (st.each d)
    where
      call : (u : Option OpenCall) → CallAgrees s g d u (Some c) → (o : OpenCall) × OpenAgrees s g d o c
      call None agrees = absurd agrees
      call (Some o) agrees = (o, agrees)

      by : (x : Option State) → StateAgrees s g d x → (o : OpenCall) × OpenAgrees s g d o c
      by None agrees = absurd (named agrees)
      by (Some x) agrees = call x.underway (subst (CallAgrees s g d x.underway) here
          (subst (λ (k : DomId). CallAgrees s g k x.underway (open_call g k.0)) agrees.1 agrees.2.call))

  open-low : (g : History) (d : DomId) (o : OpenCall) (c : Underway) → Lo d → AsksLow high d c.request
      → All Names (live g) → OpenAgrees s g d o c → IsLowStep o.step
  open-low g d o c low asks all a =
      phase-low g d c.request (path (known_at s g d) d c.request) (values c) (reverse c.steps) a.phase o.step low asks
      a.at.has_shown a.place (subst (All HeldLow) a.held (legs-named d (live g) low all)) a.acts

  bare-low : (z y : Step) → bare_step z ≡ bare_step y → IsLowStep z → IsLowStep y
  bare-low z y same is = there y (subst IsLowStep same (here z is))
    where
      here : (z : Step) → IsLowStep z → IsLowStep (bare_step z)
      here (Unpin q (holders.Mapping handle)) is = tt
      here (Unpin q (holders.Leg number)) is = tt
      here z is = is

      there : (y : Step) → IsLowStep (bare_step y) → IsLowStep y
      there (Unpin q (holders.Mapping handle)) is = tt
      there (Unpin q (holders.Leg number)) is = tt
      there y is = is

  same-told : (k t : KeylessItem) → ◌≡◌ {A = Element ⊎ KeylessItem} (inr k) (inr t) → k ≡ t
  same-told k t e = cc

  -- the step of a call after a history, by one that is alike and that a core represents
  alike-low : (p g : History) (core : CoreState) (d : DomId) (z : Step) (t : KeylessItem) (w : Observation)
      → AreAlike s p g → CoreStands s g core → domain_of s.domains d ≢ None → Lo d
      → CallAsks AsksOnlyLow d (open_call p d.0)
      → All Names (live p) → tick_told s p d (open_call p d.0) ≡ inr t → t.happened ≡ Stepped (bare_step z) w
      → IsLowStep z
  alike-low p g core d z t w alike st named low asks all told is = by (open_call g d.0) refl
    where
      same : tick_told s g d (open_call g d.0) ≡ inr t
      same = sym (within-some (domain_of s.domains d) (tick_told s g d (open_call g d.0)) named)
          ∙ sym (does-bare s g (Tick d) alike.second tt)
          ∙ sym (ap (λ (l : History). doing s l (Tick d)) (bare-same p g alike.same))
          ∙ does-bare s p (Tick d) alike.first tt
          ∙ within-some (domain_of s.domains d) (tick_told s p d (open_call p d.0)) named ∙ told

      calls : option_map bare_call (open_call p d.0) ≡ option_map bare_call (open_call g d.0)
      calls = sym ((bared p).open_calls d.0) ∙ ap (λ (l : History). open_call l d.0) (bare-same p g alike.same)
          ∙ (bared g).open_calls d.0

      asking : (c : Underway) (o : Option Underway) → option_map bare_call o ≡ Some (bare_call c)
          → CallAsks AsksOnlyLow d o
          → AsksLow high d c.request
      asking c None e asks = absurd (none-some _ e)
      asking c (Some u) e asks = asks-bare d u.request c.request
          (ap (λ (x : Underway). x.request) (same_Some (bare_call u) (bare_call c) e)) asks

      by : (c : Option Underway) → open_call g d.0 ≡ c → IsLowStep z
      by None here = absurd (idle (sym (ap (tick_told s g d) here) ∙ same))
        where
          idle : ◌≡◌ {A = Element ⊎ KeylessItem} (inl Idle) (inr t) → ⊥
          idle e = cc
      by (Some c) here =
          let o = opened g core.domains d c st.domains named here in
          let at = open-low g d o.0 c low
          (asking c (open_call p d.0) (calls ∙ ap (option_map bare_call) here) asks) (names-alike p g alike all) o.1 in
          stepped o.0 o.1.follows at
        where
          stepped : (o : OpenCall) → path (known_at s g d) d c.request (values c) ≡ Some (actions.Step o.step)
              → IsLowStep o.step → IsLowStep z
          stepped o way at =
              let there : tick_told s g d (Some c) ≡ inr t = sym (ap (tick_told s g d) here) ∙ same in
              let made : stepped_told s g d c (Some (actions.Step (bare_step o.step))) ≡ inr t =
              sym (ap (λ (a : Option Action). stepped_told s g d c (option_map bare_action a)) way) ∙ there in
              let one : Stepped (bare_step o.step) (seen_by s g d (bare_step o.step)) ≡ Stepped (bare_step z) w =
              ap (λ (k : KeylessItem). k.happened) (same-told _ t made) ∙ is in
              let e : bare_step o.step ≡ bare_step z = cc in
              bare-low o.step z e at

  -- ---- entries of low domains

  names-ro : (ro : Bool) (e : Entry) → NamesLow high e → NamesLow high (with_ro ro e)
  names-ro ro Invalid names = tt
  names-ro ro (Page dom old frame) names = names
  names-ro ro (Sub dom old frame off len) names = names
  names-ro ro (Via dom old dom2 gref) names = names

  names-changed : (gref : GrantRef) (looked : ℕ) (change : EntryChange) (old : Entry)
      → IsLowStep (Exchange gref looked change) → NamesLow high old → NamesLow high (changed_entry change old)
  names-changed gref looked (Publish entry) old is names = is
  names-changed gref looked changes.Revoke old is names = tt
  names-changed gref looked changes.Withdraw old is names = tt
  names-changed gref looked changes.Demote old is names = names-ro true old names
  names-changed gref looked changes.Promote old is names = names-ro false old names

  names-after : (x : ItemEvent) (r : ℕ) (old : Entry) → HappensLow x → NamesLow high old
      → NamesLow high (changed_entry_of (change_at x r) old)
  names-after (Stepped (Exchange gref looked change) Taken) r old is names = by (gref.0 == r)
    where
      by : (b : Bool) → NamesLow high (changed_entry_of (cond b (Some change) None) old)
      by true = names-changed gref looked change old is names
      by false = names
  names-after x r old is names = names

  shares-grow : (p : History) (i : Item) → HappensLow i.happened → SharesNothing high p → SharesNothing high (i ∷ p)
  unfolding entry_at
  shares-grow p i is shares t r low = by (i.actor.0 == t.0)
    where
      by : (b : Bool)
          → NamesLow high (changed_entry_of (cond b (change_at i.happened r) None) (entry_at p t.0 r))
      by true = names-after i.happened r (entry_at p t.0 r) is (shares t r low)
      by false = shares t r low

  shares-first : SharesNothing high []
  unfolding entry_at
  shares-first t r low = tt

  -- ---- one more event

  tick-low : (p h : History) (d : DomId) (x : ItemEvent) (a : Option Answer) → IsLowPart s high p h → IsLikeReached s p
      → AllAskLow p → All Names (live p) → Lo d → domain_of s.domains d ≢ None
      → IsRight s h (record { actor = d; happened = x; answer = a }) → HappensLow x
  tick-low p h d (Began q) a m reached asks all low named right = tt
  tick-low p h d (Stepped z v) a m (g, alike, (core, st)) asks all low named right =
      let next = step-at s high p h d z v a (open_call h d.0) (sym (known-low s high p h m d low)) right in
      alike-low p g core d z next.0 next.1 alike st named low (asks d low) all
      (ap (tick_told s p d) (m.calls d low) ∙ next.2) next.3

  abbrev LowDoes : Element → Type 0
  LowDoes (elements.Item i) = HappensLow i.happened
  LowDoes x = Unit {0}

  does-low : (p h : History) (e : Event) (x : Element) → IsLowPart s high p h → IsLikeReached s p → AllAskLow p
      → All Names (live p) → Lo (actor_of e) → MayDo s h e x → LowDoes x
  does-low p h e NoDomain m reached asks all low may = tt
  does-low p h e Busy m reached asks all low may = tt
  does-low p h e Idle m reached asks all low may = tt
  does-low p h (Begin d q) (elements.Item i) m reached asks all low may = subst HappensLow (sym may.1.1) tt
  does-low p h (Tick d) (elements.Item i) m reached asks all low may =
      tick-low p h d i.happened i.answer m reached asks all low may.0
      (subst (λ (k : DomId). IsRight s h (record i { actor = k })) may.1.0 may.2)

  does-at : (x : Element) → LowDoes x → AtLow s high x
  does-at (elements.Item i) is = at-low i.happened is
  does-at x is = tt

  -- what stays of the part of low domains with one more element
  record Goes (p : History) : Type 0 where
    pub reached : IsLikeReached s p
    pub asks : AllAskLow p
    pub names : All Names (live p)
    pub shares : SharesNothing high p

  item-goes : (p : History) (i : Item) → Goes p → HappensLow i.happened → domain_of s.domains i.actor ≢ None
      → IsRight s p i → HappensKnown p i → AsksFit i.happened → HappensAsking AsksOnlyLow i.actor i.happened
      → Goes (i ∷ p)
  item-goes p i goes is named right known fits asks = record {
    reached = like-goes-on s p i goes.reached named right known fits;
    asks = λ d low. call-grows AsksOnlyLow p i d (λ same. asks) (goes.asks d low);
    names = names-grow p i goes.shares (at-low i.happened is) goes.names;
    shares = shares-grow p i is goes.shares;
  }

  begun-goes : (p : History) (d : DomId) (q : Request) (i : Item) (x : ItemEvent) → i.happened ≡ x → x ≡ Began q
      → i.actor ≡ d → IsOfKnown p (Begin d q) → AsksLow high d (asked q) × FitsAsked (asked q)
      → HappensKnown p i × AsksFit i.happened × HappensAsking AsksOnlyLow i.actor i.happened
  begun-goes p d q i x is same own known asks = (
    subst (λ (k : DomId). HappensKnown p (record i { actor = k })) (sym own)
        (subst (λ (y : ItemEvent). HappensKnown p (record { actor = d; happened = y; answer = i.answer }))
        (sym (is ∙ same)) known),
    subst AsksFit (sym (is ∙ same)) asks.1,
    subst (λ (k : DomId). HappensAsking AsksOnlyLow k i.happened) (sym own)
        (subst (HappensAsking AsksOnlyLow d) (sym (is ∙ same)) asks.0),
  )

  ticked-goes : (p : History) (d : DomId) (x : ItemEvent) (a : Option Answer) (k : DomId)
      → MayDo s p (Tick d) (elements.Item (record { actor = k; happened = x; answer = a }))
      → HappensKnown p (record { actor = k; happened = x; answer = a }) × AsksFit x × HappensAsking AsksOnlyLow k x
  ticked-goes p d (Began q) a k may = absurd may.1.1
  ticked-goes p d (Stepped z v) a k may = (tt, tt, tt)

  -- the event begins a call that keeps apart
  abbrev BeginsApart : Event → Type 0
  BeginsApart (Begin d q) = AsksApart high d (asked q)
  BeginsApart (Tick d) = Unit {0}

  goes-on : (p : History) (e : Event) (x : Element) → Goes p → Lo (actor_of e) → LowDoes x → MayDo s p e x
      → IsOfKnown p e → BeginsApart e → Goes (grown p x)
  goes-on p e NoDomain goes low is may known asks = goes
  goes-on p e Busy goes low is may known asks = goes
  goes-on p e Idle goes low is may known asks = goes
  goes-on p (Begin d q) (elements.Item i) goes low is may known asks =
      let b = begun-goes p d q i i.happened refl may.1.1 may.1.0 known (asks.0 low) in
      item-goes p i goes is (subst (λ (k : DomId). domain_of s.domains k ≢ None) (sym may.1.0) may.0) may.2 b.0 b.1 b.2
  goes-on p (Tick d) (elements.Item i) goes low is may known asks =
      let b = ticked-goes p d i.happened i.answer i.actor may in
      item-goes p i goes is (subst (λ (k : DomId). domain_of s.domains k ≢ None) (sym may.1.0) may.0) may.2 b.0 b.1 b.2

  -- ---- copies of high domains

  abbrev Copying : DomId → OpenRequest → Type 0
  Copying d r = CopiesHigh high d r

  copies-grow : (g : History) (i : Item)
      → (high i.actor ≡ true → HappensAsking Copying i.actor i.happened) → CopiesApart high g
      → CopiesApart high (i ∷ g)
  copies-grow g i asks copies d up = back d (open_call (i ∷ g) d.0)
      (call-grows Copying g i d (λ same. asks (subst (λ (k : DomId). high k ≡ true) (sym same) up))
      (there d (open_call g d.0) (copies d up)))
    where
      there : (d : DomId) (c : Option Underway) → CallCopiesHigh high d c → CallAsks Copying d c
      there d None asks = tt
      there d (Some c) asks = asks

      back : (d : DomId) (c : Option Underway) → CallAsks Copying d c → CallCopiesHigh high d c
      back d None asks = tt
      back d (Some c) asks = asks

  copies-first : CopiesApart high []
  unfolding open_call
  copies-first d up = tt

  begun-copying : (d : DomId) (x : ItemEvent) (q : Request) → x ≡ Began q → CopiesHigh high d (asked q)
      → HappensAsking Copying d x
  begun-copying d x q is asks = subst (HappensAsking Copying d) (sym is) asks

  ticked-copying : (p : History) (d : DomId) (x : ItemEvent) (a : Option Answer) (k : DomId)
      → MayDo s p (Tick d) (elements.Item (record { actor = k; happened = x; answer = a }))
      → HappensAsking Copying k x
  ticked-copying p d (Began q) a k may = absurd may.1.1
  ticked-copying p d (Stepped z v) a k may = tt

  copies-go : (g : History) (e : Event) (x : Element) → MayDo s g e x → BeginsApart e → CopiesApart high g
      → CopiesApart high (grown g x)
  copies-go g e NoDomain may asks copies = copies
  copies-go g e Busy may asks copies = copies
  copies-go g e Idle may asks copies = copies
  copies-go g (Begin d q) (elements.Item i) may asks copies = copies-grow g i (λ up.
      begun-copying i.actor i.happened q may.1.1
      (subst (λ (k : DomId). Copying k (asked q)) (sym may.1.0)
      (asks.1 (subst (λ (k : DomId). high k ≡ true) may.1.0 up)))) copies
  copies-go g (Tick d) (elements.Item i) may asks copies =
      copies-grow g i (λ up. ticked-copying g d i.happened i.answer i.actor may) copies

  asks-head : (e : Event) (es : List Event) → AllAskApart high (e ∷ es) → BeginsApart e × AllAskApart high es
  asks-head (Begin d q) es asks = asks
  asks-head (Tick d) es asks = (tt, asks)

  -- ---- runs

  looks-grow : (g : History) (e : Event) (x : Element) → MayDo s g e x → LooksApart high g
      → (Lo (actor_of e) → AtLow s high x) → LooksApart high (grown g x)
  unfolding LooksApart
  looks-grow g (Begin d q) (elements.Item i) may looks at = (λ low. at (subst Lo may.1.0 low), looks)
  looks-grow g (Tick d) (elements.Item i) may looks at = (λ low. at (subst Lo may.1.0 low), looks)
  looks-grow g e x may looks at = looks

  stays-grow : (g : History) (x : Element) → StaysApart high g → SharesNothing high (grown g x)
      → CopiesApart high (grown g x) → StaysApart high (grown g x)
  unfolding StaysApart
  stays-grow g (elements.Item i) stays shares copies = ((shares, copies), stays)
  stays-grow g x stays shares copies = stays

  stays-start : SharesNothing high [] → CopiesApart high [] → StaysApart high []
  unfolding StaysApart
  stays-start shares copies = (shares, copies)

  -- all that holds after the events so far
  record IsSoFar (p g : History) : Type 0 where
    pub part : IsLowPart s high p g
    pub goes : Goes p
    pub copies : CopiesApart high g
    pub stays : StaysApart high g
    pub looks : LooksApart high g

  shares-of : (p g : History) → IsLowPart s high p g → SharesNothing high p → SharesNothing high g
  shares-of p g m shares = shares-part s high g p (λ t r low. sym (m.entry t r low)) shares

  high-goes : (p g : History) (e : Event) (x : Element) → IsSoFar p g → high (actor_of e) ≡ true
      → MayDo s g e x → BeginsApart e → IsSoFar p (grown g x)
  high-goes p g e x so up may asks =
      let part = high-event s high p g e x so.part (shares-of p g so.part so.goes.shares) so.copies up may in
      let copies = copies-go g e x may asks so.copies in record {
        part = part;
        goes = so.goes;
        copies = copies;
        stays = stays-grow g x so.stays (shares-of p (grown g x) part so.goes.shares) copies;
        looks = looks-grow g e x may so.looks (λ low. absurd (true≢false (sym up ∙ low)));
      }

  low-goes : (p g : History) (e : Event) (x : Element) → IsSoFar p g → Lo (actor_of e) → MayDo s g e x → IsOfKnown p e
      → BeginsApart e → IsSoFar (grown p x) (grown g x)
  low-goes p g e x so low may known asks =
      let is = does-low p g e x so.part so.goes.reached so.goes.asks so.goes.names low may in
      let next = low-event s high p g e x so.part (shares-of p g so.part so.goes.shares) so.copies low (does-at x is)
      may in
      let goes = goes-on p e x so.goes low is next.0 known asks in
      let copies = copies-go g e x may asks so.copies in record {
        part = next.1;
        goes = goes;
        copies = copies;
        stays = stays-grow g x so.stays (shares-of (grown p x) (grown g x) next.1 goes.shares) copies;
        looks = looks-grow g e x may so.looks (λ here. does-at x is);
      }

  all-apart : (p g : History) (es : List Event) (xs : List Element) → IsSoFar p g → LegalAfter s g es xs
      → AllAskApart high es → NamesKnown p (low_events high es) (low_elements high es xs)
      → StaysApart high (history_after g xs) × LooksApart high (history_after g xs)
  all-apart p g [] [] so legal asks known = (so.stays, so.looks)
  all-apart p g [] (x ∷ xs) so legal asks known = absurd legal
  all-apart p g (e ∷ es) [] so legal asks known = absurd legal
  all-apart p g (e ∷ es) (x ∷ xs) so legal asks known = by (high (actor_of e)) refl known
      (λ q after ids. all-apart q (grown g x) es xs after legal.1 (asks-head e es asks).1 ids)
    where
      by : (b : Bool) → high (actor_of e) ≡ b
          → NamesKnown p (cond b (low_events high es) (e ∷ low_events high es))
          (cond b (low_elements high es xs) (x ∷ low_elements high es xs))
          → ((q : History) → IsSoFar q (grown g x)
          → NamesKnown q (low_events high es) (low_elements high es xs)
          → StaysApart high (history_after (grown g x) xs) × LooksApart high (history_after (grown g x) xs))
          → StaysApart high (history_after (grown g x) xs) × LooksApart high (history_after (grown g x) xs)
      by true up known rest = rest p (high-goes p g e x so up legal.0 (asks-head e es asks).0) known
      by false low known rest =
          rest (grown p x) (low-goes p g e x so low legal.0 known.0 (asks-head e es asks).0) known.1

  so-first : IsLikeReached s [] → IsSoFar [] []
  unfolding open_call live LooksApart
  so-first reached = record {
    part = nothing-yet s high;
    goes = record { reached = reached; asks = λ d low. tt; names = All-nil Names; shares = shares-first };
    copies = copies-first;
    stays = stays-start shares-first copies-first;
    looks = tt;
  }

  stay-more : (g : History) (x : Element) → CopiesStayApart high g → CopiesApart high (grown g x)
      → CopiesStayApart high (grown g x)
  unfolding CopiesStayApart
  stay-more g (elements.Item i) stay copies = (copies, stay)
  stay-more g x stay copies = stay

  -- the copies of a run, by its requests
  copies-stay : (g : History) (es : List Event) (xs : List Element) → CopiesApart high g → CopiesStayApart high g
      → LegalAfter s g es xs → AllAskApart high es → CopiesStayApart high (history_after g xs)
  copies-stay g [] [] copies stay legal asks = stay
  copies-stay g [] (x ∷ xs) copies stay legal asks = absurd legal
  copies-stay g (e ∷ es) [] copies stay legal asks = absurd legal
  copies-stay g (e ∷ es) (x ∷ xs) copies stay legal asks =
      let head = asks-head e es asks in
      let next = copies-go g e x legal.0 head.0 copies in
      copies-stay (grown g x) es xs next (stay-more g x stay next) legal.1 head.1

  copies-start : CopiesStayApart high []
  unfolding CopiesStayApart
  copies-start = copies-first

pub requests-keep-apart : RequestsKeepApart
requests-keep-apart config may high es xs limits legal asks known =
    let s = setting_of config may in
    all-apart s high [] [] es xs (so-first s high (like-starts config may limits)) legal asks known

pub unshared-domains-make-no-difference : UnsharedDomainsMakeNoDifference
unshared-domains-make-no-difference config may high es fs xs ys limits legal other asks others known names same =
    let s = setting_of config may in
    let apart = requests-keep-apart config may high es xs limits legal asks known in
    high-calls-make-no-difference s high es fs xs ys legal other known names same apart.0 apart.1
    (copies-stay s high [] fs ys (copies-first s high) (copies-start s high) other others)
