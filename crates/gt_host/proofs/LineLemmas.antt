-- What the lines of a script lead to.
use Rattle.std.proofs.Common.{◌≡◌, ◌≢◌, ◌⊎◌, ℕ, Bool, true, false, cond, List, [], ◌∷◌, ◌++◌, length, replicate}
use Rattle.std.proofs.Common.{Option, None, Some, refl, ap, sym, subst, ◌∙◌, inl, inr}
use Rattle.std.proofs.lemmas.List.{append-nil}
use Rattle.std.proofs.lemmas.Bool.{eq-eqb, ne_eqb}
use Rattle.std.specs.Prelude.{◌==◌, is_some}
use Rattle.gt_types.specs.Names.{domain_of}
use Rattle.gt_types.specs.declared.GrantRef.{GrantRef}
use Rattle.gt_script_lines.specs.declared.calls.ScriptCall.{ScriptCall}
use Rattle.gt_script.specs.declared.script.ScriptStep.{ScriptStep}
use Rattle.gt_model.specs.History.{History, Setting, open_call}
use Rattle.gt_model.specs.Legal.{MayDo, grown, LegalAfter, history_after}
use Rattle.gt_core.specs.Shown.{shown_at}
use Rattle.gt_core.specs.Standing.{CoreStands}
use Rattle.gt_core.specs.Acting.{begun_element}
use Rattle.gt_core.specs.States.{CoreState}
use Rattle.gt_core.specs.declared.core_state.Begun.{Begun}
use Rattle.gt_core.specs.declared.core_state.Begun.TheVariants as beginnings
use Rattle.gt_core.specs.declared.core_state.EntryView.{EntryView}
use Rattle.gt_model.specs.Asking.{asked, bytes_given_by}
use Rattle.gt_model.specs.declared.request.Request.{Request}
use Rattle.gt_model.specs.declared.trace.Answer.{Answer}
use Rattle.gt_model.specs.declared.trace.Event.{Event}
use Rattle.gt_model.specs.declared.trace.Event.TheVariants.{Begin, Tick}
use Rattle.gt_model.specs.declared.trace.Element.{Element}
use Rattle.gt_model.specs.declared.trace.Element.TheVariants.{Busy}
use Rattle.gt_model.specs.declared.trace.Element.TheVariants as elements
use Rattle.gt_model.specs.declared.trace.ItemEvent.TheVariants.{Began}
use Rattle.gt_model.specs.declared.trace.Item.{Item}
use Rattle.gt_host.specs.declared.audit.AuditRecords.{AuditRecords}
use Rattle.gt_host.specs.declared.kept.PlayState.{PlayState}
use Rattle.gt_script_runs.specs.declared.labels.Labels.{Labels}
use Rattle.gt_host.specs.declared.open_calls.OpenCalls.{OpenCalls}
use Rattle.gt_audit.specs.declared.record.Hypercall.{Hypercall}
use Rattle.gt_script_runs.specs.Naming.{AreNamed}
use Rattle.gt_host.specs.OpenCalls.{call_in, recorded_in}
use Rattle.gt_script_runs.specs.Printing.{answer_line, busy_line, idle_line}
use Rattle.gt_script_runs.specs.Runs.{Progress, Named, DoLine, BeginLine, TickLine, ShowLine, history_of, with_events}
use Rattle.gt_script_runs.specs.Runs.{with_line, progress_after, after_ticks, progress_begun, named_after}
use Rattle.gt_script_runs.specs.Runs.{MakesRequest, call_events}
use Rattle.gt_host.specs.Recording.{IsAbout}
use Rattle.gt_script_runs.specs.Showing.{show_line}
use Rattle.gt_host.specs.Ticking.{HasHappened, HasCalled, TicksTo, KeepsProgress, HasPlayed, IsAppended}
use Rattle.gt_host.proofs.AuditLemmas.{AddsRecord, AreTold, Records, audited_begun, audited_busy, audited_call}
use Rattle.gt_host.proofs.AuditLemmas.{audited_more, audited_ticks, audited_wait}
use Rattle.gt_host.proofs.EventLemmas.{AreOf, answered_leaves, begins_fresh, event_closes, event_other, events_close}
use Rattle.gt_host.proofs.EventLemmas.{events_other, same_or_apart, ticks_of}
use Rattle.gt_host.proofs.OpenLemmas.{own_call, HasOpen, ticks_stay}
use Rattle.gt_host.proofs.RunLemmas.{LegalAfter-append, history_after-append, happens_one}

-- which domains have a call open

-- only one domain's call changed
knows_next : (old new : ℕ → Option ScriptStep) (h g : History) (d : ℕ) → ((n : ℕ) → is_some (old n) ≡ is_some (open_call h n)) → ((n : ℕ) → (d ≡ n → ⊥) → new n ≡ old n) → ((n : ℕ) → (d ≡ n → ⊥) → open_call g n ≡ open_call h n)
    → is_some (new d) ≡ is_some (open_call g d) → (n : ℕ) → is_some (new n) ≡ is_some (open_call g n)
knows_next old new h g d knows kept stays here n = elim (same_or_apart d n) [
  | inl same ↦ subst (λ (m : ℕ). is_some (new m) ≡ is_some (open_call g m)) same here
  | inr apart ↦ ap is_some (kept n apart) ∙ knows n ∙ ap is_some (sym (stays n apart))
]

pick_other : (calls : ℕ → Option ScriptStep) (call : Option ScriptStep) (d n : ℕ) → (d ≡ n → ⊥) → cond (n == d) call (calls n) ≡ calls n
pick_other calls call d n apart = ap (λ (b : Bool). cond b call (calls n)) (ne_eqb n d (λ e. apart (sym e)))

pick_own : (calls : ℕ → Option ScriptStep) (call : Option ScriptStep) (d : ℕ) → cond (d == d) call (calls d) ≡ call
pick_own calls call d = ap (λ (b : Bool). cond b call (calls d)) (eq-eqb d d refl)

none_known : {A : Type 0} (o : Option A) → is_some o ≡ false → o ≡ None
none_known None e = refl
none_known (Some x) e = cc

some_known : {A : Type 0} (o : Option A) → is_some o ≡ true → (x : A) × (o ≡ Some x)
some_known None e = cc
some_known (Some x) e = (x, refl)

-- more has happened
came : (s : Setting) (audit : Bool) (p : Progress) (events : List Event) (trace : List Element) (named : List Named) (calls : ℕ → Option ScriptStep) (text : List ℕ) (old new : CoreState) (kept next : PlayState) → HasPlayed s audit p old kept → HasHappened s (history_of p) events trace new
    → KeepsProgress next (record { events = p.events ++ events; trace = p.trace ++ trace; named = named; open_steps = calls; text = text })
    → ((n : ℕ) → is_some (calls n) ≡ is_some (open_call (history_after (history_of p) trace) n))
    → next.audit.is_on ≡ kept.audit.is_on
    → (kept.audit.is_on ≡ true → AreTold s (history_of p) (recorded_in kept.calls) → Records s (history_of p) trace kept.audit.records.items next.audit.records.items (recorded_in next.calls))
    → HasPlayed s audit (record { events = p.events ++ events; trace = p.trace ++ trace; named = named; open_steps = calls; text = text }) new next
came s audit p events trace named calls text old new kept next come happens keeps knows same recorded =
    let joined : history_after [] (p.trace ++ trace) ≡ history_after (history_of p) trace = history_after-append [] p.trace trace in
    record {
      legal = LegalAfter-append s [] p.events p.trace events trace come.legal happens.legal;
      stands = subst (λ (h : History). CoreStands s h new) (sym joined) happens.stands;
      keeps = keeps;
      knows = λ n. knows n ∙ ap (λ (h : History). is_some (open_call h n)) (sym joined);
      audited = audited_more s audit p.trace trace kept next come.audited same recorded;
    }

-- nothing has happened but a line more
lined : (s : Setting) (audit : Bool) (p : Progress) (line : List ℕ) (domains : CoreState) (kept : PlayState) → HasPlayed s audit p domains kept → HasPlayed s audit (with_line p line) domains kept
lined s audit p line domains kept come = record {
  legal = come.legal;
  stands = come.stands;
  keeps = record { names = come.keeps.names; calls = come.keeps.calls };
  knows = come.knows;
  audited = come.audited;
}

-- `do ID CALL`

pub do_answered : (s : Setting) (audit : Bool) (types : List (List ℕ)) (st : ScriptStep) (call : ScriptCall) (p : Progress) (old new : CoreState) (kept next : PlayState) (before after : List ℕ) (request : Request) (said : Option Answer) (a : Answer) (told : Option Hypercall)
    → MakesRequest p.named st.dom call request → said ≡ Some a → HasPlayed s audit p old kept → HasCalled s (history_of p) st.dom request new said
    → (kept.audit.is_on ≡ true → IsAbout s old st.dom request told) → AddsRecord kept next st.dom told a
    → AreNamed next.labels (named_after p.named st.dom st a) → next.calls ≡ kept.calls → after ≡ before ++ answer_line types st.line st.dom a
    → (q : Progress) × DoLine types st call p q × HasPlayed s audit q new next × IsAppended p.text q.text before after
do_answered s audit types st call p old new kept next before after request said a told asks is come made about adds names same line =
    let made_so = subst (λ (o : Option Answer). HasCalled s (history_of p) st.dom request new o) is made in
    let events : List Event = call_events st.dom request made_so.ticks in
    let ends = made_so.comes.3 in
    let first : made_so.trace ≡ elements.Item made_so.comes.0 ∷ made_so.comes.1 = made_so.comes.2 in
    let legal = subst (λ (l : List Element). LegalAfter s (history_of p) events l) first made_so.happens.legal in
    let left : (n : ℕ) → open_call (history_after (history_of p) made_so.trace) n ≡ open_call (history_of p) n = λ n.
    subst (λ (l : List Element). open_call (history_after (history_of p) l) n ≡ open_call (history_of p) n) (sym first)
    (answered_leaves s (history_of p) st.dom request made_so.ticks made_so.comes.0 made_so.comes.1 ends.before ends.last a (sym first ∙ ends.order) ends.answers legal n) in (
      progress_after types (with_events p events made_so.trace) st (Some a),
      (request, asks, made_so.ticks, made_so.trace, Some a, made_so.length_of, made_so.comes, refl),
      came s audit p events made_so.trace (named_after p.named st.dom st a) p.open_steps (p.text ++ answer_line types st.line st.dom a) old new kept next come made_so.happens
          (record { names = names; calls = λ n. ap (λ (c : OpenCalls). call_in c n) same ∙ come.keeps.calls n })
          (λ n. come.knows n ∙ ap is_some (sym (left n))) adds.is_on
          (λ on known. subst (λ (l : List Element). Records s (history_of p) l kept.audit.records.items next.audit.records.items (recorded_in next.calls)) (sym first)
          (audited_call s (history_of p) st.dom request made_so.ticks made_so.comes.0 made_so.comes.1 ends.before ends.last a kept.audit.records.items next.audit.records.items (recorded_in next.calls) told
          (sym first ∙ ends.order) ends.quiet ends.answers legal (about on (history_of p) come.stands) adds.records (subst (λ (c : OpenCalls). AreTold s (history_of p) (recorded_in c)) (sym same) known))),
      (answer_line types st.line st.dom a, refl, line),
    )

pub do_busy : (s : Setting) (audit : Bool) (types : List (List ℕ)) (st : ScriptStep) (call : ScriptCall) (p : Progress) (old new : CoreState) (kept : PlayState) (before after : List ℕ) (request : Request) (said : Option Answer)
    → MakesRequest p.named st.dom call request → said ≡ None → HasPlayed s audit p old kept → HasCalled s (history_of p) st.dom request new said → after ≡ before ++ busy_line st.line st.dom
    → (q : Progress) × DoLine types st call p q × HasPlayed s audit q new kept × IsAppended p.text q.text before after
do_busy s audit types st call p old new kept before after request said asks is come made line =
    let made_so = subst (λ (o : Option Answer). HasCalled s (history_of p) st.dom request new o) is made in
    let events : List Event = call_events st.dom request made_so.ticks in (
      progress_after types (with_events p events made_so.trace) st None,
      (request, asks, made_so.ticks, made_so.trace, None, made_so.length_of, made_so.comes, refl),
      came s audit p events made_so.trace p.named p.open_steps (p.text ++ busy_line st.line st.dom) old new kept kept come made_so.happens
          (record { names = come.keeps.names; calls = come.keeps.calls })
          (λ n. come.knows n ∙ ap (λ (l : List Element). is_some (open_call (history_after (history_of p) l) n)) (sym made_so.comes)) refl
          (λ on known. audited_busy s (history_of p) made_so.trace kept.audit.records.items (recorded_in kept.calls) made_so.comes known),
      (busy_line st.line st.dom, refl, line),
    )

-- `begin ID CALL`

-- one event of the domain
begun_once : (s : Setting) (audit : Bool) (types : List (List ℕ)) (st : ScriptStep) (call : ScriptCall) (p : Progress) (request : Request) (x : Element) (named : List Named) (calls : ℕ → Option ScriptStep) (text : List ℕ) (old new : CoreState) (kept next : PlayState) (before after : List ℕ)
    → MakesRequest p.named st.dom call request → HasPlayed s audit p old kept → MayDo s (history_of p) (Begin st.dom request) x × CoreStands s (grown (history_of p) x) new
    → progress_begun types (with_events p (Begin st.dom request ∷ []) (x ∷ [])) st x
    ≡ record { events = p.events ++ Begin st.dom request ∷ []; trace = p.trace ++ x ∷ []; named = named; open_steps = calls; text = p.text ++ text }
    → AreNamed next.labels named → ((n : ℕ) → call_in next.calls n ≡ calls n) → ((n : ℕ) → (st.dom.0 ≡ n → ⊥) → calls n ≡ p.open_steps n) → is_some (calls st.dom.0) ≡ is_some (open_call (grown (history_of p) x) st.dom.0)
    → next.audit.is_on ≡ kept.audit.is_on
    → (kept.audit.is_on ≡ true → AreTold s (history_of p) (recorded_in kept.calls) → Records s (history_of p) (x ∷ []) kept.audit.records.items next.audit.records.items (recorded_in next.calls))
    → after ≡ before ++ text → (q : Progress) × BeginLine types st call p q × HasPlayed s audit q new next × IsAppended p.text q.text before after
begun_once s audit types st call p request x named calls text old new kept next before after asks come told is names known others here on_same recorded line =
    let happens = happens_one s (history_of p) (Begin st.dom request) x new told in (
      record { events = p.events ++ Begin st.dom request ∷ []; trace = p.trace ++ x ∷ []; named = named; open_steps = calls; text = p.text ++ text },
      (request, asks, x, sym is),
      came s audit p (Begin st.dom request ∷ []) (x ∷ []) named calls (p.text ++ text) old new kept next come happens (record { names = names; calls = known })
          (knows_next p.open_steps calls (history_of p) (grown (history_of p) x) st.dom.0 come.knows others
          (λ n apart. event_other s (history_of p) (Begin st.dom request) x st.dom n refl told.0 apart) here) on_same recorded,
      (text, refl, line),
    )

pub begin_answered : (s : Setting) (audit : Bool) (types : List (List ℕ)) (st : ScriptStep) (call : ScriptCall) (p : Progress) (old new : CoreState) (kept next : PlayState) (before after : List ℕ) (request : Request) (said : Begun) (a : Answer) (hyper : Option Hypercall)
    → MakesRequest p.named st.dom call request → said ≡ beginnings.Done a → HasPlayed s audit p old kept → (kept.audit.is_on ≡ true → IsAbout s old st.dom request hyper) → AddsRecord kept next st.dom hyper a → MayDo s (history_of p) (Begin st.dom request) (begun_element st.dom request said) × CoreStands s (grown (history_of p) (begun_element st.dom request said)) new
    → AreNamed next.labels (named_after p.named st.dom st a) → next.calls ≡ kept.calls → after ≡ before ++ answer_line types st.line st.dom a
    → (q : Progress) × BeginLine types st call p q × HasPlayed s audit q new next × IsAppended p.text q.text before after
begin_answered s audit types st call p old new kept next before after request said a hyper asks is come about adds told names same line =
    let i : Item = record { actor = st.dom; happened = Began request; answer = Some a } in
    let told_so = subst (λ (b : Begun). MayDo s (history_of p) (Begin st.dom request) (begun_element st.dom request b) × CoreStands s (grown (history_of p) (begun_element st.dom request b)) new) is told in
    let was : open_call (history_of p) st.dom.0 ≡ None = begins_fresh s (history_of p) st.dom request i told_so.0 in
    let now : open_call (i ∷ history_of p) st.dom.0 ≡ None = event_closes s (history_of p) (Begin st.dom request) (elements.Item i) st.dom a refl told_so.0 refl in
    begun_once s audit types st call p request (elements.Item i) (named_after p.named st.dom st a) p.open_steps (answer_line types st.line st.dom a) old new kept next before after asks come told_so refl names
    (λ n. ap (λ (c : OpenCalls). call_in c n) same ∙ come.keeps.calls n) (λ n apart. refl) (come.knows st.dom.0 ∙ ap is_some (was ∙ sym now)) adds.is_on
    (λ on known. audited_call s (history_of p) st.dom request 0 i [] [] (elements.Item i) a kept.audit.records.items next.audit.records.items (recorded_in next.calls) hyper refl tt refl (told_so.0, tt)
    (about on (history_of p) come.stands) adds.records (subst (λ (c : OpenCalls). AreTold s (history_of p) (recorded_in c)) (sym same) known))
    line

pub begin_busy : (s : Setting) (audit : Bool) (types : List (List ℕ)) (st : ScriptStep) (call : ScriptCall) (p : Progress) (old new : CoreState) (kept : PlayState) (before after : List ℕ) (request : Request) (said : Begun)
    → MakesRequest p.named st.dom call request → said ≡ beginnings.Busy → HasPlayed s audit p old kept → MayDo s (history_of p) (Begin st.dom request) (begun_element st.dom request said) × CoreStands s (grown (history_of p) (begun_element st.dom request said)) new
    → after ≡ before ++ busy_line st.line st.dom → (q : Progress) × BeginLine types st call p q × HasPlayed s audit q new kept × IsAppended p.text q.text before after
begin_busy s audit types st call p old new kept before after request said asks is come told line =
    let told_so = subst (λ (b : Begun). MayDo s (history_of p) (Begin st.dom request) (begun_element st.dom request b) × CoreStands s (grown (history_of p) (begun_element st.dom request b)) new) is told in
    begun_once s audit types st call p request Busy p.named p.open_steps (busy_line st.line st.dom) old new kept kept before after asks come told_so refl come.keeps.names come.keeps.calls (λ n apart. refl) (come.knows st.dom.0) refl
    (λ on known. audited_busy s (history_of p) (Busy ∷ []) kept.audit.records.items (recorded_in kept.calls) refl known) line

begun_open : (s : Setting) (audit : Bool) (types : List (List ℕ)) (st : ScriptStep) (call : ScriptCall) (p : Progress) (old new : CoreState) (kept next : PlayState) (before after : List ℕ) (request : Request) (hyper : Option Hypercall)
    → MakesRequest p.named st.dom call request → HasPlayed s audit p old kept → (kept.audit.is_on ≡ true → IsAbout s old st.dom request hyper) → next.audit ≡ kept.audit → ((n : ℕ) → recorded_in next.calls n ≡ cond (n == st.dom.0) hyper (recorded_in kept.calls n))
    → MayDo s (history_of p) (Begin st.dom request) (elements.Item (record { actor = st.dom; happened = Began request; answer = None }))
    × CoreStands s (record { actor = st.dom; happened = Began request; answer = None } ∷ history_of p) new
    → next.labels ≡ kept.labels → ((n : ℕ) → call_in next.calls n ≡ cond (n == st.dom.0) (Some st) (call_in kept.calls n)) → after ≡ before
    → (q : Progress) × BeginLine types st call p q × HasPlayed s audit q new next × IsAppended p.text q.text before after
begun_open s audit types st call p old new kept next before after request hyper asks come about was_so picked told same known line =
    let i : Item = record { actor = st.dom; happened = Began request; answer = None } in
    let calls : ℕ → Option ScriptStep = λ n. cond (n == st.dom.0) (Some st) (p.open_steps n) in
    let now : open_call (i ∷ history_of p) st.dom.0 ≡ Some (record { request = asked request; given = bytes_given_by request; steps = [] }) = own_call i (history_of p) st.dom.0 refl in
    begun_once s audit types st call p request (elements.Item i) p.named calls [] old new kept next before after asks come told
    (ap (λ (text : List ℕ). record { events = p.events ++ Begin st.dom request ∷ []; trace = p.trace ++ elements.Item i ∷ []; named = p.named; open_steps = calls; text = text }) (sym (append-nil p.text)))
    (subst (λ (l : Labels). AreNamed l p.named) (sym same) come.keeps.names)
    (λ n. known n ∙ ap (λ (o : Option ScriptStep). cond (n == st.dom.0) (Some st) o) (come.keeps.calls n))
    (pick_other p.open_steps (Some st) st.dom.0) (ap is_some (pick_own p.open_steps (Some st) st.dom.0) ∙ sym (ap is_some now)) (ap (λ (a : AuditRecords). a.is_on) was_so)
    (λ on knew. subst (λ (a : AuditRecords). Records s (history_of p) (elements.Item i ∷ []) kept.audit.records.items a.records.items (recorded_in next.calls)) (sym was_so)
    (audited_begun s (history_of p) st.dom request kept.audit.records.items (recorded_in kept.calls) (recorded_in next.calls) hyper told.0 (about on (history_of p) come.stands) picked knew))
    (line ∙ sym (append-nil before))

pub begin_open : (s : Setting) (audit : Bool) (types : List (List ℕ)) (st : ScriptStep) (call : ScriptCall) (p : Progress) (old new : CoreState) (kept next : PlayState) (before after : List ℕ) (request : Request) (said : Begun) (hyper : Option Hypercall)
    → MakesRequest p.named st.dom call request → domain_of s.domains st.dom ≢ None → (said ≡ beginnings.Open) ⊎ (said ≡ beginnings.NoDomain) → HasPlayed s audit p old kept
    → (kept.audit.is_on ≡ true → IsAbout s old st.dom request hyper) → next.audit ≡ kept.audit → ((n : ℕ) → recorded_in next.calls n ≡ cond (n == st.dom.0) hyper (recorded_in kept.calls n))
    → MayDo s (history_of p) (Begin st.dom request) (begun_element st.dom request said) × CoreStands s (grown (history_of p) (begun_element st.dom request said)) new
    → next.labels ≡ kept.labels → ((n : ℕ) → call_in next.calls n ≡ cond (n == st.dom.0) (Some st) (call_in kept.calls n)) → after ≡ before
    → (q : Progress) × BeginLine types st call p q × HasPlayed s audit q new next × IsAppended p.text q.text before after
begin_open s audit types st call p old new kept next before after request said hyper asks configured (inl is) come about was_so picked told same known line =
    begun_open s audit types st call p old new kept next before after request hyper asks come about was_so picked
    (subst (λ (b : Begun). MayDo s (history_of p) (Begin st.dom request) (begun_element st.dom request b) × CoreStands s (grown (history_of p) (begun_element st.dom request b)) new) is told)
    same known line
begin_open s audit types st call p old new kept next before after request said hyper asks configured (inr is) come about was_so picked told same known line =
    absurd (configured (subst (λ (b : Begun). MayDo s (history_of p) (Begin st.dom request) (begun_element st.dom request b)) is told.0))

-- `tick ID N`

pub ticks_answered : (s : Setting) (audit : Bool) (types : List (List ℕ)) (st : ScriptStep) (most : ℕ) (begun : ScriptStep) (p : Progress) (old new : CoreState) (kept next : PlayState) (before after : List ℕ) (said : Option Answer) (a : Answer) (hyper : Option Hypercall)
    → hyper ≡ recorded_in kept.calls st.dom.0 → AddsRecord kept next st.dom hyper a → ((n : ℕ) → recorded_in next.calls n ≡ cond (n == st.dom.0) None (recorded_in kept.calls n))
    → call_in kept.calls st.dom.0 ≡ Some begun → said ≡ Some a → HasPlayed s audit p old kept → TicksTo s (history_of p) st.dom most new said
    → AreNamed next.labels (named_after p.named st.dom begun a) → ((n : ℕ) → call_in next.calls n ≡ cond (n == st.dom.0) None (call_in kept.calls n)) → after ≡ before ++ answer_line types begun.line st.dom a
    → (q : Progress) × TickLine types st most (p.open_steps st.dom.0) p q × HasPlayed s audit q new next × IsAppended p.text q.text before after
ticks_answered s audit types st most begun p old new kept next before after said a hyper about adds picked begins is come ticks names known line =
    let made = subst (λ (o : Option Answer). TicksTo s (history_of p) st.dom most new o) is ticks in
    let events : List Event = replicate made.ticks (Tick st.dom) in
    let own : AreOf st.dom events = ticks_of st.dom made.ticks in
    let ends = made.comes.0 in
    let calls : ℕ → Option ScriptStep = λ n. cond (n == st.dom.0) None (p.open_steps n) in
    let q : Progress = after_ticks types (with_events p events made.trace) st.dom begun (Some a) in
    let ended : open_call (history_after (history_of p) (ends.before ++ ends.last ∷ [])) st.dom.0 ≡ None =
    events_close s (history_of p) events ends.before ends.last st.dom a own (subst (λ (l : List Element). LegalAfter s (history_of p) events l) ends.order made.happens.legal) ends.answers in
    let now : open_call (history_after (history_of p) made.trace) st.dom.0 ≡ None = subst (λ (l : List Element). open_call (history_after (history_of p) l) st.dom.0 ≡ None) (sym ends.order) ended in (
      q,
      subst (λ (o : Option ScriptStep). TickLine types st most o p q) (sym begins ∙ come.keeps.calls st.dom.0) (made.ticks, made.trace, Some a, made.length_of, made.comes, refl),
      came s audit p events made.trace (named_after p.named st.dom begun a) calls (p.text ++ answer_line types begun.line st.dom a) old new kept next come made.happens
          (record { names = names; calls = λ n. known n ∙ ap (λ (o : Option ScriptStep). cond (n == st.dom.0) None o) (come.keeps.calls n) })
          (knows_next p.open_steps calls (history_of p) (history_after (history_of p) made.trace) st.dom.0 come.knows (pick_other p.open_steps None st.dom.0)
          (λ n apart. events_other s (history_of p) events made.trace st.dom n own made.happens.legal apart) (ap is_some (pick_own p.open_steps None st.dom.0) ∙ sym (ap is_some now))) adds.is_on
          (λ on knew. audited_ticks s (history_of p) st.dom made.ticks made.trace ends.before ends.last a kept.audit.records.items next.audit.records.items (recorded_in kept.calls) (recorded_in next.calls) hyper
          ends.order ends.quiet ends.answers made.happens.legal about adds.records picked knew),
      (answer_line types begun.line st.dom a, refl, line),
    )

pub ticks_open : (s : Setting) (audit : Bool) (types : List (List ℕ)) (st : ScriptStep) (most : ℕ) (begun : ScriptStep) (p : Progress) (old new : CoreState) (kept : PlayState) (before after : List ℕ) (said : Option Answer)
    → domain_of s.domains st.dom ≢ None → call_in kept.calls st.dom.0 ≡ Some begun → said ≡ None → HasPlayed s audit p old kept → TicksTo s (history_of p) st.dom most new said → after ≡ before
    → (q : Progress) × TickLine types st most (p.open_steps st.dom.0) p q × HasPlayed s audit q new kept × IsAppended p.text q.text before after
ticks_open s audit types st most begun p old new kept before after said configured begins is come ticks line =
    let made = subst (λ (o : Option Answer). TicksTo s (history_of p) st.dom most new o) is ticks in
    let events : List Event = replicate made.ticks (Tick st.dom) in
    let own : AreOf st.dom events = ticks_of st.dom made.ticks in
    let q : Progress = with_events p events made.trace in
    let has : p.open_steps st.dom.0 ≡ Some begun = sym (come.keeps.calls st.dom.0) ∙ begins in
    let was = some_known (open_call (history_of p) st.dom.0) (sym (come.knows st.dom.0) ∙ ap is_some has) in
    let open_now : HasOpen (history_of p) st.dom.0 was.0.request (length was.0.steps) = record { call = was.0; is = was.1; asks = refl; made = refl } in
    let stays = ticks_stay s (history_of p) st.dom made.ticks made.trace was.0.request (length was.0.steps) configured open_now made.comes.0 made.happens.legal in (
      q,
      subst (λ (o : Option ScriptStep). TickLine types st most o p q) (sym has) (made.ticks, made.trace, None, made.length_of, made.comes, refl),
      came s audit p events made.trace p.named p.open_steps p.text old new kept kept come made.happens (record { names = come.keeps.names; calls = come.keeps.calls })
          (knows_next p.open_steps p.open_steps (history_of p) (history_after (history_of p) made.trace) st.dom.0 come.knows (λ n apart. refl)
          (λ n apart. events_other s (history_of p) events made.trace st.dom n own made.happens.legal apart) (ap is_some has ∙ sym (ap is_some stays.0.is))) refl
          (λ on knew. audited_wait s (history_of p) st.dom made.ticks made.trace kept.audit.records.items (recorded_in kept.calls) made.comes.0 made.happens.legal knew),
      ([], sym (append-nil p.text), line ∙ sym (append-nil before)),
    )

pub ticks_idle : (s : Setting) (audit : Bool) (types : List (List ℕ)) (st : ScriptStep) (most : ℕ) (p : Progress) (domains : CoreState) (kept : PlayState) (before after : List ℕ)
    → call_in kept.calls st.dom.0 ≡ None → HasPlayed s audit p domains kept → after ≡ before ++ idle_line st.line st.dom
    → (q : Progress) × TickLine types st most (p.open_steps st.dom.0) p q × HasPlayed s audit q domains kept × IsAppended p.text q.text before after
ticks_idle s audit types st most p domains kept before after none come line =
    let q : Progress = with_line p (idle_line st.line st.dom) in
    let has : p.open_steps st.dom.0 ≡ None = sym (come.keeps.calls st.dom.0) ∙ none in
    let free : open_call (history_of p) st.dom.0 ≡ None = none_known (open_call (history_of p) st.dom.0) (sym (come.knows st.dom.0) ∙ ap is_some has) in (
      q,
      subst (λ (o : Option ScriptStep). TickLine types st most o p q) (sym has) (free, refl),
      lined s audit p (idle_line st.line st.dom) domains kept come,
      (idle_line st.line st.dom, refl, line),
    )

-- `show ID REF`

pub shows : (s : Setting) (audit : Bool) (st : ScriptStep) (gref : GrantRef) (p : Progress) (domains : CoreState) (kept : PlayState) (before after : List ℕ) (shown : Option EntryView)
    → HasPlayed s audit p domains kept → ((h : History) → CoreStands s h domains → shown ≡ shown_at s h st.dom gref.0) → after ≡ before ++ show_line st.line st.dom gref shown
    → (q : Progress) × ShowLine s st gref p q × HasPlayed s audit q domains kept × IsAppended p.text q.text before after
shows s audit st gref p domains kept before after shown come told line =
    let text : List ℕ = show_line st.line st.dom gref (shown_at s (history_of p) st.dom gref.0) in (
      with_line p text,
      refl,
      lined s audit p text domains kept come,
      (text, refl, line ∙ ap (λ (o : Option EntryView). before ++ show_line st.line st.dom gref o) (told (history_of p) come.stands)),
    )
