-- Every legal history can continue.
use Rattle.gt_core.proofs.Words.{◌≡◌, ◌≢◌, ◌==◌, ℕ, refl, false, List, [], ◌∷◌, ◌++◌, length, Option, Some, None, Bool}
use Rattle.gt_core.proofs.Words.{cond, cond_both, sym, ap, ◌∙◌, subst, reverse, same_Some, none-some, eqb-true}
use Rattle.gt_core.proofs.Words.{position-Some, position, get_or, set, slice_get, is_some, DomId, domain_of, Handle}
use Rattle.gt_core.proofs.Words.{HeldPin, HandleMap, Observation, Nothing, CallResult, Granted, Given, Refused, Step}
use Rattle.gt_core.proofs.Words.{Action, Done, Call, Phase, knowledge_of, CallerKnowledge, path, action_at, Goes}
use Rattle.gt_core.proofs.Words.{Starts, OpenCall, Answer, Mapped, State, state_of, sees, History, Setting, known_at}
use Rattle.gt_core.proofs.Words.{seen_by, Underway, values, open_call, DomainsStand, StateStands, CallAgrees}
use Rattle.gt_core.proofs.Words.{OpenAgrees, StateAgrees, applied, with_underway, with_mapping, Adds, AccessedBy}
use Rattle.gt_core.proofs.Words.{FrameSet, IsRight, CoreStands, FramesStand, core_of, Settled, Closed, answer_with}
use Rattle.gt_core.proofs.Words.{ticked_with, ticked_element, MayDo, grown, MappingsAgree, mappings_at}
use Rattle.gt_core.proofs.Words.{maps_answered_at, begun_of, asked, SpellsItsEntry, Request, Begin, Tick, journal_in}
use Rattle.gt_core.proofs.Words.{map, Denied, Element, eq-eqb, CoreState, unwrap_or, nat_lt, replicate, WriteRecord}
use Rattle.gt_core.proofs.Words.{IsTrue, all_rightful, frames_of, pool_number, AreKept, all_zeros, frame_counts}
use Rattle.gt_core.proofs.Words.{first_state}
use Rattle.gt_model.specs.declared.action.Action.TheVariants as actions
use Rattle.gt_model.specs.declared.trace.Answer.TheVariants as answers
use Rattle.gt_model.specs.declared.action.Step.TheVariants as call_steps
use Rattle.gt_model.specs.declared.trace.Element.TheVariants as elements
use Rattle.gt_model.specs.declared.action.CallResult.TheVariants as results
use Rattle.gt_calls.specs.Machine.{standing_after}
use Rattle.gt_frames.specs.declared.places.FrameCount.{FrameCount}
use Rattle.gt_model.specs.Asking.{FitsAsked}
use Rattle.gt_calls.specs.Asking.{judged_as}
use Rattle.gt_calls.proofs.Advancing.{continues, opens as starts-open}
use Rattle.gt_calls.specs.declared.asking.Judged.TheVariants as judgements
use Rattle.gt_core.specs.GoingOn.{AccessAnsweredSo, AnsweredSo, CallsCanBegin, IsAccess, AccessesNoBytes, CanBeReached}
use Rattle.gt_core.specs.GoingOn.{OpenCallsCanAccess, OpenCallsCanGoOn, RunsStart, begin_answer, beginning}
use Rattle.gt_core.specs.GoingOn.{step_after}
use Rattle.std.proofs.Common.{◌+◌, ◌-◌, ◌≤◌, arith, drop, length-drop, slice_range, take}
use Rattle.std.proofs.lemmas.Bool.Decides.{nat_tests}
use Rattle.std.proofs.lemmas.List.{length-take-le}
use Rattle.gt_types.specs.declared.limits.TheConstants.{FRAME_SIZE}
use Rattle.gt_types.specs.declared.places.Spot.{Spot}
use Rattle.gt_model.specs.Written.{Patch, written}
use Rattle.gt_frames.specs.Frames.{bytes_at, contents}
use Rattle.gt_frames.specs.Sets.{admits, frame_at, has_range}
use Rattle.gt_types.specs.declared.places.FrameName.{FrameName}
use Rattle.gt_frames.specs.declared.writ.Writ.{Writ}
use Rattle.gt_core.proofs.Steps.Write.{open-admitted}
use Rattle.gt_core.proofs.Writing.{can-write}
use Rattle.gt_core.specs.Accesses.{IsAdmitted, basis_of, access_path_of}
use Rattle.gt_model.specs.History.{contents_at}
use Rattle.gt_model.specs.declared.trace.Bytes.{Bytes}
use Rattle.gt_core.specs.Acting.{answer_of, IsOpenCall}
use Rattle.gt_core.specs.declared.core_state.Begun.TheVariants as beginnings
use Rattle.gt_core.proofs.{Beginning.begin-answers, Beginning.begin-opened, Beginning.not-done, Beginning.opened}
use Rattle.gt_core.proofs.{AgreementKept.known-same, Performing.kept-part, Performing.stepped-state}
use Rattle.gt_core.proofs.{Playing.core-starts, Playing.legal-grows, Starting.get-replicate, Rows.found, Rows.has_id}
use Rattle.gt_core.proofs.{Rows.not-found, Rows.state_of-set, Steps.Write.frames-begun, Stepping.Begins}
use Rattle.gt_core.proofs.{Stepping.tick-does, Ticking.Ticks, Ticking.ticks, Values.call-ends, Beginning.place-at}
use Rattle.gt_model.proofs.Observers.{stepped}
use Rattle.gt_core.proofs.Starting.{starts as domains-start}
use Rattle.gt_core.proofs.Ticking.{done-from}

-- the state of a domain of the run

there : (s : Setting) (h : History) (xs : List State) (d : DomId) → DomainsStand s h xs → domain_of s.domains d ≢ None → (x : State) × (state_of xs d.0 ≡ Some x) × (x.id ≡ d) × StateStands s h x
there s h xs d st named = by (state_of xs d.0) refl (st.each d) where
  by : (o : Option State) → state_of xs d.0 ≡ o → StateAgrees s h d o → (x : State) × (state_of xs d.0 ≡ Some x) × (x.id ≡ d) × StateStands s h x
  by None e a = absurd (named a)
  by (Some x) e a = (x, e, a.1, a.2)

placed : (xs : List State) (d : ℕ) (x : State) → state_of xs d ≡ Some x → (at : ℕ) × (position (has_id d) xs ≡ Some at) × (x ≡ get_or xs at x)
placed xs d x is = by (position (has_id d) xs) refl where
  by : (o : Option ℕ) → position (has_id d) xs ≡ o → (at : ℕ) × (position (has_id d) xs ≡ Some at) × (x ≡ get_or xs at x)
  by None e = absurd (none-some x (sym (not-found xs d e) ∙ is))
  by (Some at) e = (at, e, same_Some x (get_or xs at x) (sym is ∙ found xs d at x e))

idle : (s : Setting) (h : History) (d : DomId) (o : Option OpenCall) (c : Option Underway) → CallAgrees s h d o c → c ≡ None → is_some o ≡ false
idle s h d None c a e = refl
idle s h d (Some o) None a e = absurd a
idle s h d (Some o) (Some c) a e = absurd (none-some c (sym e))

opened-by : (s : Setting) (h : History) (d : DomId) (u : Option OpenCall) (v : Option Underway) (c : Underway) → CallAgrees s h d u v → v ≡ Some c → (o : OpenCall) × (u ≡ Some o) × OpenAgrees s h d o c
opened-by s h d None None c a e = absurd (none-some c e)
opened-by s h d None (Some z) c a e = absurd a
opened-by s h d (Some o) None c a e = absurd a
opened-by s h d (Some o) (Some z) c a e = (o, refl, subst (OpenAgrees s h d o) (same_Some z c e) a)

-- a beginning

abbrev unstarted : DomId → Request → Call
unstarted d request = record { caller = d; request = asked request; phase = None }

-- a call that no rule answers makes a first step
opens-so : (k : CallerKnowledge) (d : DomId) (request : Request) → begun_of k d request ≡ None → SpellsItsEntry k.header request → (o : OpenCall) × IsOpenCall k d request o
opens-so k d request none said = let first = unstarted d request in
    let p : Phase = standing_after k d (asked request) None Nothing in
    let new : Call = record { caller = d; request = asked request; phase = Some p } in
    let start : Starts k d request (judgements.Open first) = starts-open k d request (asked request) (λ e. said) (sym (ap (judged_as (asked request)) none)) in
    let goes : Goes k first Nothing new (action_at d p) = continues k d (asked request) None Nothing (Some p) (action_at d p) refl refl in
    by new (action_at d p) start goes refl refl refl
  where
    by : (new : Call) (action : Action) → Starts k d request (judgements.Open (unstarted d request)) → Goes k (unstarted d request) Nothing new action → new.caller ≡ (unstarted d request).caller → new.request ≡ (unstarted d request).request
        → action ≡ action → (o : OpenCall) × IsOpenCall k d request o
    by new (actions.Step step) start goes caller asks e = (record { call = new; step = step }, opened k d request (unstarted d request) new (actions.Step step) step start goes refl caller asks)
    by new (Done v) start goes caller asks e = absurd (not-done k d request (unstarted d request) new (Done v) v start goes refl)

pub calls-can-begin : CallsCanBegin
calls-can-begin s h d request (core, st) named closed fits said =
    let t = there s h core.domains d st.domains named in let x = t.0 in let a = t.3 in
    let p = placed core.domains d.0 x t.1 in
    let rest : is_some x.underway ≡ false = subst (λ (z : DomId). open_call h z.0 ≡ None → is_some x.underway ≡ false) t.2 (λ e. idle s h x.id x.underway (open_call h x.id.0) a.call e) closed in
    let k = knowledge_of s.domains s.first_generation s.may x.own x.header x.mappings in
    let was : k ≡ known_at s h d = known-same s h x a ∙ ap (known_at s h) t.2 in
    let same : (begun_of k d request ≡ begun_of (known_at s h d) d request) = ap (λ (z : CallerKnowledge). begun_of z d request) was in
    let header : SpellsItsEntry k.header request = subst (λ (z : CallerKnowledge). SpellsItsEntry z.header request) (sym was) said in
    by (begun_of (known_at s h d) d request) x same p.0 p.1 p.2 rest header
  where
    by : (v : Option CallResult) (x : State) → begun_of (knowledge_of s.domains s.first_generation s.may x.own x.header x.mappings) d request ≡ v → (at : ℕ) → position (has_id d.0) core.domains ≡ Some at → x ≡ get_or core.domains at x
        → is_some x.underway ≡ false → SpellsItsEntry x.header request → IsRight s h (beginning d request (begin_answer v)) × CanBeReached s (beginning d request (begin_answer v) ∷ h)
    by (Some v) x is at place here rest header = let b = begin-answers s h core.domains d at x request v (answer_of v) refl place here rest is st.domains in (
      b.1,
      (
        core,
        record {
          legal = legal-grows s h (Begin d request) (elements.Item (beginning d request (Some (answer_of v)))) (named, (refl, refl), b.1) st.legal;
          domains = b.2;
          frames = frames-begun s h core.frames d request (beginnings.Done (answer_of v)) st.frames;
        },
      ),
    )
    by None x is at place here rest header = let o = opens-so (knowledge_of s.domains s.first_generation s.may x.own x.header x.mappings) d request is header in
        let b = begin-opened s h core.domains d at x request o.0 (subst FitsAsked (sym o.1.asks) fits) place here rest o.1 st.domains in (
          b.1,
          (
            core_of _ core.frames,
            record {
              legal = legal-grows s h (Begin d request) (elements.Item (beginning d request None)) (named, (refl, refl), b.1) st.legal;
              domains = b.2;
              frames = frames-begun s h core.frames d request beginnings.Open st.frames;
            },
          ),
        )

empty-journal : (n : ℕ) (place : Option ℕ) → journal_in place (replicate n []) ≡ []
empty-journal n None = refl
empty-journal n (Some i) = ap (λ (o : Option (List WriteRecord)). unwrap_or o []) (get-replicate n i []) ∙ cond_both (nat_lt i n) (Some []) None (λ (o : Option (List WriteRecord)). unwrap_or o [] ≡ []) (λ e. refl) (λ e. refl)

kept-zeros : (counts : List FrameCount) → AreKept (all_zeros counts)
kept-zeros counts name = subst (λ (journal : List WriteRecord). IsTrue (all_rightful name.owner name.number journal)) (sym (empty-journal (frames_of counts) (pool_number counts name.owner name.number 0))) refl

pub runs-start : RunsStart
runs-start config may limits = let xs = map (first_state config.first_gen) config.domains.items in let fs = all_zeros (frame_counts config.domains.items) in
    (core_of xs fs, core-starts config may xs fs (domains-start config may limits) refl (kept-zeros (frame_counts config.domains.items)))

-- a step on words

no-bytes-changed : (x : State) (call : Call) (step : Step) (fs : FrameSet) → AccessesNoBytes step → AccessedBy x call step fs fs
no-bytes-changed x call (call_steps.Read dom frame off len) fs quiet = absurd quiet
no-bytes-changed x call (call_steps.Write dom frame off len) fs quiet = absurd quiet
no-bytes-changed x call (call_steps.Copy from to len) fs quiet = absurd quiet
no-bytes-changed x call step fs quiet = refl

-- the answer in these frames of a call that ends with this step
abbrev IsToldBy : FrameSet → Step → Answer → Type 0
IsToldBy fs (call_steps.Read dom frame off len) answer = (b : Bytes) × (answer ≡ answers.Bytes b) × (b.bytes.items ≡ bytes_at (frame_at fs (record { owner = dom; number = frame })) off len)
IsToldBy fs step answer = answer ≡ answers.Done

closes : (fs : FrameSet) (xs : List State) (at : ℕ) (d : State) (step : Step) (answer : Answer) → IsToldBy fs step answer → Closed fs xs at d step answer (set xs at (with_underway None d))
closes fs xs at d (call_steps.Read dom frame off len) answer told = (told.0, told.1, refl, told.2)
closes fs xs at d step answer told = (told, refl)

told-words : (fs : FrameSet) (step : Step) → AccessesNoBytes step → IsToldBy fs step answers.Done
told-words fs (call_steps.Read dom frame off len) quiet = absurd quiet
told-words fs step quiet = refl

-- the answer of the call in a state with these mappings
abbrev EndsIn : FrameSet → Step → State → Action → Option Answer → Type 0
EndsIn fs step x (actions.Step next) answer = answer ≡ None
EndsIn fs step x (Done (results.Mapped held)) answer = (handle : Handle) × (answer ≡ Some (Mapped handle)) × ((new : HandleMap HeldPin) × Adds x.mappings new handle held)
EndsIn fs step x (Done Granted) answer = (z : Answer) × (answer ≡ Some z) × IsToldBy fs step z
EndsIn fs step x (Done verdict) answer = answer ≡ Some (answer_of verdict)

-- what the step gives
abbrev Gives : Setting → History → DomId → Step → Option Answer → Type 0
Gives s h d step answer = IsRight s h (step_after s h d step answer) × CanBeReached s (step_after s h d step answer ∷ h)

-- the phase of the call after its step, and the call there
abbrev moved : Setting → List State → State → OpenCall → Phase
moved s xs x o = standing_after (knowledge_of s.domains s.first_generation s.may x.own x.header x.mappings) o.call.caller o.call.request o.call.phase (sees xs x.id o.step)

abbrev call_then : Setting → List State → State → OpenCall → Call
call_then s xs x o = record { caller = o.call.caller; request = o.call.request; phase = Some (moved s xs x o) }

abbrev action_then : Setting → List State → State → OpenCall → Action
action_then s xs x o = action_at o.call.caller (moved s xs x o)

goes-then : (s : Setting) (xs : List State) (x : State) (o : OpenCall)
    → Goes (knowledge_of s.domains s.first_generation s.may x.own x.header x.mappings) o.call (sees xs x.id o.step) (call_then s xs x o) (action_then s xs x o)
goes-then s xs x o = continues (knowledge_of s.domains s.first_generation s.may x.own x.header x.mappings) o.call.caller o.call.request o.call.phase (sees xs x.id o.step) (Some (moved s xs x o)) (action_then s xs x o) refl refl

module _ (s : Setting) (h : History) (xs : List State) (fs : FrameSet) (x : State) (o : OpenCall) (c : Underway) (action : Action) (answer : Option Answer)
    (st : CoreStands s h (core_of xs fs)) (named : domain_of s.domains x.id ≢ None) (here : state_of xs x.id.0 ≡ Some x) (a : StateStands s h x) (under : x.underway ≡ Some o) (call : open_call h x.id.0 ≡ Some c)
    (stands : OpenAgrees s h x.id o c) (gs : FrameSet) (wrote : AccessedBy x o.call o.step fs gs) (next : path (known_at s h x.id) x.id c.request (values c ++ seen_by s h x.id o.step ∷ []) ≡ Some action) (ends : EndsIn gs o.step x action answer) where
  ticked : (sees xs x.id o.step ≡ seen_by s h x.id o.step) × Ticks s h xs x o c (call_then s xs x o) (action_then s xs x o)
  ticked = ticks s h xs x o c (sees xs x.id o.step) (call_then s xs x o) (action_then s xs x o) st.legal st.domains here a call stands refl refl refl (goes-then s xs x o)

  same-action : action_then s xs x o ≡ action
  same-action = same_Some _ _ (sym ticked.1.on.follows ∙ next)

  -- what the step leaves of the states
  left-by : (at : ℕ) (y : State) → slice_get xs at ≡ Some x → slice_get (applied x.id o.step (sees xs x.id o.step) xs) at ≡ Some y → (z : Action) → action_then s xs x o ≡ z → EndsIn gs o.step x z answer
      → (ys : List State) × Settled gs (applied x.id o.step (sees xs x.id o.step) xs) at y o.step (call_then s xs x o) z answer ys
  left-by at y was now (actions.Step z) e end = (set (applied x.id o.step (sees xs x.id o.step) xs) at (with_underway (Some (record { call = call_then s xs x o; step = z })) y), (end, refl))
  left-by at y was now (Done Granted) e (z, is, told) = (set (applied x.id o.step (sees xs x.id o.step) xs) at (with_underway None y), (z, is, closes gs (applied x.id o.step (sees xs x.id o.step) xs) at y o.step z told))
  left-by at y was now (Done (results.Mapped held)) e (handle, is, (new, adds)) =
      let pin : o.step ≡ call_steps.Pin held = (call-ends s h xs x.id c.request (values c) (reverse c.steps) ticked.1.stands.phase o.step ticked.1.i (results.Mapped held) (done-from ticked.1 (results.Mapped held) e)).is in
      let same : y.mappings ≡ x.mappings = kept-part (λ (z : State). z.mappings) x.id (call_steps.Pin held) (sees xs x.id o.step) xs at x y (λ z r n. refl) was
      (subst (λ (z : Step). slice_get (applied x.id z (sees xs x.id o.step) xs) at ≡ Some y) pin now) in
      (set (applied x.id o.step (sees xs x.id o.step) xs) at (with_mapping new y), (Mapped handle, is, (handle, new, refl, subst (λ (m : HandleMap HeldPin). Adds m new handle held) (sym same) adds, refl)))
  left-by at y was now (Done (Given value)) e end = (set (applied x.id o.step (sees xs x.id o.step) xs) at (with_underway None y), (answer_with value, end, (refl, refl)))
  left-by at y was now (Done (Refused denial)) e end = (set (applied x.id o.step (sees xs x.id o.step) xs) at (with_underway None y), (Denied denial, end, (refl, refl)))

  element-of : (seen : Observation) (z : Option Answer) → ticked_element x.id (ticked_with o.step seen z) ≡ elements.Item (stepped x.id o.step seen z)
  element-of seen None = refl
  element-of seen (Some z) = refl

  goes-on-at : Gives s h x.id o.step answer
  goes-on-at = let saw = sees xs x.id o.step in let ws = applied x.id o.step saw xs in
      let p = placed xs x.id.0 x here in let y = stepped-state x.id o.step saw xs p.0 x p.1 in
      let was : slice_get xs p.0 ≡ Some x = place-at xs x.id.0 p.0 x p.1 p.2 in
      let l = left-by p.0 y.0 was y.1 (action_then s xs x o) refl (subst (λ (z : Action). EndsIn gs o.step x z answer) (sym same-action) ends) in
      let b : Begins s xs x.id p.0 x o saw (call_then s xs x o) (action_then s xs x o) = record { place = p.1; here = p.2; under = under; saw = refl; caller = refl; asks = refl; goes = goes-then s xs x o } in
      let does = tick-does s fs gs gs xs l.0 x.id p.0 x o saw (call_then s xs x o) (action_then s xs x o) answer (ticked_with o.step saw answer) refl b wrote
      (λ d there. subst (λ (z : State). Settled gs ws p.0 z o.step (call_then s xs x o) (action_then s xs x o) answer l.0) (same_Some y.0 d (sym y.1 ∙ there)) l.1) refl h st in
      let r = subst (λ (z : Element). MayDo s h (Tick x.id) z × CoreStands s (grown h z) (core_of l.0 gs)) (element-of saw answer) does in
      subst (λ (v : Observation). IsRight s h (stepped x.id o.step v answer) × CanBeReached s (stepped x.id o.step v answer ∷ h)) ticked.0 (r.0.2, (core_of l.0 gs, r.1))

-- the states with other handles for the same mappings of one domain

rehandled : (s : Setting) (h : History) (xs : List State) (x : State) (at : ℕ) (m : HandleMap HeldPin) → DomainsStand s h xs → position (has_id x.id.0) xs ≡ Some at → x ≡ get_or xs at x → state_of xs x.id.0 ≡ Some x
    → domain_of s.domains x.id ≢ None → StateStands s h x → MappingsAgree m (mappings_at h x.id.0) (maps_answered_at h x.id.0)
    → DomainsStand s h (set xs at (record x { mappings = m })) × (state_of (set xs at (record x { mappings = m })) x.id.0 ≡ Some (record x { mappings = m })) × StateStands s h (record x { mappings = m })
rehandled s h xs x at m st place here was named a agrees = (
  record { each = each; tables = st.tables; words = st.words; entries = st.entries; lawful = st.lawful },
  becomes x.id.0 ∙ ap (λ (b : Bool). cond b (Some y) (state_of xs x.id.0)) (eq-eqb x.id.0 x.id.0 refl),
  now,
) where
  y : State
  y = record x { mappings = m }

  now : StateStands s h (record x { mappings = m })
  now = record { header = a.header; rows = a.rows; entries = a.entries; generations = a.generations; room = a.room; slots = a.slots; mappings = agrees; call = a.call; given = a.given }

  becomes : (q : ℕ) → state_of (set xs at (record x { mappings = m })) q ≡ cond (x.id.0 == q) (Some (record x { mappings = m })) (state_of xs q)
  becomes q = let places = position-Some (has_id x.id.0) xs at x place in state_of-set xs at x (record x { mappings = m }) q places.0 (sym here) refl (λ k below. places.2 k below)

  each : (dom : DomId) → StateAgrees s h dom (state_of (set xs at (record x { mappings = m })) dom.0)
  each dom = subst (StateAgrees s h dom) (sym (becomes dom.0)) (cond_both (x.id.0 == dom.0) (Some (record x { mappings = m })) (state_of xs dom.0) (StateAgrees s h dom)
      (λ is. let e : x.id ≡ dom = ap (λ (n : ℕ). record { 0 = n }) (eqb-true x.id.0 dom.0 is) in (subst (λ (d : DomId). domain_of s.domains d ≢ None) e named, e, now)) (λ is. st.each dom))

same-step : (a b : Step) → actions.Step a ≡ actions.Step b → a ≡ b
same-step a b e = cc

module _ (s : Setting) (h : History) (core : CoreState) (c : Underway) (step : Step) (action : Action) (answer : Option Answer) (st : CoreStands s h core) (quiet : AccessesNoBytes step) where
  -- what the call of a domain needs to continue like this
  abbrev Needs : DomId → Type 0
  Needs d = (domain_of s.domains d ≢ None) × (open_call h d.0 ≡ Some c) × (path (known_at s h d) d c.request (values c) ≡ Some (actions.Step step))
      × (path (known_at s h d) d c.request (values c ++ seen_by s h d step ∷ []) ≡ Some action) × AnsweredSo h d action answer

  goes-on-home : (x : State) → state_of core.domains x.id.0 ≡ Some x → StateStands s h x → Needs x.id → Gives s h x.id step answer
  goes-on-home x here a (named, call, way, next, so) = let u = opened-by s h x.id x.underway (open_call h x.id.0) c a.call call in let o = u.0 in
      let same : o.step ≡ step = same-step o.step step (same_Some (actions.Step o.step) (actions.Step step) (sym u.2.follows ∙ way)) in
      let quiet' : AccessesNoBytes o.step = subst AccessesNoBytes (sym same) quiet in
      let next' = subst (λ (z : Step). path (known_at s h x.id) x.id c.request (values c ++ seen_by s h x.id z ∷ []) ≡ Some action) (sym same) next in
      subst (λ (z : Step). Gives s h x.id z answer) same (by o u.1 u.2 quiet' next' action refl so)
    where
      by : (o : OpenCall) → x.underway ≡ Some o → OpenAgrees s h x.id o c → AccessesNoBytes o.step → path (known_at s h x.id) x.id c.request (values c ++ seen_by s h x.id o.step ∷ []) ≡ Some action
          → (z : Action) → action ≡ z → AnsweredSo h x.id z answer → Gives s h x.id o.step answer
      by o under stands quiet next (Done (results.Mapped held)) e (handle, is, may) = let p = placed core.domains x.id.0 x here in
          let r = rehandled s h core.domains x p.0 may.old st.domains p.1 p.2 here named a may.agrees in
          goes-on-at s h (set core.domains p.0 (record x { mappings = may.old })) core.frames (record x { mappings = may.old }) o c action answer (record { legal = st.legal; domains = r.0; frames = st.frames })
          named r.1 r.2 under call stands core.frames (no-bytes-changed (record x { mappings = may.old }) o.call o.step core.frames quiet) next (subst (λ (w : Action). EndsIn core.frames o.step (record x { mappings = may.old }) w answer) (sym e) (handle, is, (may.new, may.adds)))
      by o under stands quiet next (actions.Step z) e end = goes-on-at s h core.domains core.frames x o c action answer st named here a under call stands core.frames (no-bytes-changed x o.call o.step core.frames quiet) next (subst (λ (w : Action). EndsIn core.frames o.step x w answer) (sym e) end)
      by o under stands quiet next (Done Granted) e end = goes-on-at s h core.domains core.frames x o c action answer st named here a under call stands core.frames (no-bytes-changed x o.call o.step core.frames quiet) next (subst (λ (w : Action). EndsIn core.frames o.step x w answer) (sym e) (answers.Done, end, told-words core.frames o.step quiet))
      by o under stands quiet next (Done (Given value)) e end = goes-on-at s h core.domains core.frames x o c action answer st named here a under call stands core.frames (no-bytes-changed x o.call o.step core.frames quiet) next (subst (λ (w : Action). EndsIn core.frames o.step x w answer) (sym e) end)
      by o under stands quiet next (Done (Refused denial)) e end = goes-on-at s h core.domains core.frames x o c action answer st named here a under call stands core.frames (no-bytes-changed x o.call o.step core.frames quiet) next (subst (λ (w : Action). EndsIn core.frames o.step x w answer) (sym e) end)

pub open-calls-can-go-on : OpenCallsCanGoOn
open-calls-can-go-on s h d c step action answer (core, st) named call way quiet next so = let t = there s h core.domains d st.domains named in
    subst (λ (z : DomId). Needs s h core c step action answer st quiet z → Gives s h z step answer) t.2 (goes-on-home s h core c step action answer st quiet t.0 (ap (λ (z : DomId). state_of core.domains z.0) t.2 ∙ t.1) t.3) (named, call, way, next, so)

-- an access

-- the writ of the domain's call
abbrev writ_of : State → Call → Writ
writ_of x call = record { writer = call.caller; basis = basis_of (access_path_of x.mappings call) }

seen-nothing : (s : Setting) (h : History) (d : DomId) (step : Step) → IsAccess step → seen_by s h d step ≡ Nothing
seen-nothing s h d (call_steps.Read dom frame off len) is = refl
seen-nothing s h d (call_steps.Write dom frame off len) is = refl
seen-nothing s h d (call_steps.Copy from to len) is = refl
seen-nothing s h d step is = absurd is

module _ (s : Setting) (h : History) (fs : FrameSet) (fr : FramesStand s h fs) where
  -- a frame holds what the history gives
  holds : (name : FrameName) → contents (frame_at fs name) ≡ contents_at h name.owner.0 name.number
  holds name = ap (λ (ps : List Patch). written ps) (fr.writes name)

  filled : (name : FrameName) → length (contents (frame_at fs name)) ≡ FRAME_SIZE
  filled name = ap (λ (bytes : List ℕ). length bytes) (holds name) ∙ fr.filled name.owner.0 name.number

  module _ (x : State) (call : Call) where
    -- the access is made, and the call continues or is answered
    abbrev Made : Step → Action → Option Answer → Type 0
    Made step action answer = (gs : FrameSet) × AccessedBy x call step fs gs × EndsIn gs step x action answer

    read-ends : (dom : DomId) (frame off len : ℕ) (action : Action) (answer : Option Answer) → AccessAnsweredSo h (call_steps.Read dom frame off len) action answer → EndsIn fs (call_steps.Read dom frame off len) x action answer
    read-ends dom frame off len (actions.Step next) answer so = so
    read-ends dom frame off len (Done Granted) answer (z, is, told) = (z, is, (told.0, told.1, told.2 ∙ ap (λ (bytes : List ℕ). slice_range bytes off (off + len)) (sym (holds (record { owner = dom; number = frame })))))
    read-ends dom frame off len (Done (Given value)) answer so = absurd so
    read-ends dom frame off len (Done (results.Mapped held)) answer so = absurd so
    read-ends dom frame off len (Done (Refused denial)) answer so = absurd so

    write-ends : (gs : FrameSet) (dom : DomId) (frame off len : ℕ) (action : Action) (answer : Option Answer) → AccessAnsweredSo h (call_steps.Write dom frame off len) action answer → EndsIn gs (call_steps.Write dom frame off len) x action answer
    write-ends gs dom frame off len (actions.Step next) answer so = so
    write-ends gs dom frame off len (Done Granted) answer so = so
    write-ends gs dom frame off len (Done (Given value)) answer so = absurd so
    write-ends gs dom frame off len (Done (results.Mapped held)) answer so = absurd so
    write-ends gs dom frame off len (Done (Refused denial)) answer so = absurd so

    copy-ends : (gs : FrameSet) (from to : Spot) (len : ℕ) (action : Action) (answer : Option Answer) → AccessAnsweredSo h (call_steps.Copy from to len) action answer → EndsIn gs (call_steps.Copy from to len) x action answer
    copy-ends gs from to len (actions.Step next) answer so = so
    copy-ends gs from to len (Done Granted) answer so = so
    copy-ends gs from to len (Done (Given value)) answer so = absurd so
    copy-ends gs from to len (Done (results.Mapped held)) answer so = absurd so
    copy-ends gs from to len (Done (Refused denial)) answer so = absurd so

    -- the bytes of a range that exists are as many as its length
    long : (from : Spot) (len : ℕ) → IsTrue (has_range fs from.frame from.off len) → length (bytes_at (frame_at fs from.frame) from.off len) ≡ len
    long from len is = let full = filled from.frame in let fits : from.off + len ≤ FRAME_SIZE = grind (arith, nat_tests) in
        let xs : List ℕ = contents (frame_at fs from.frame) in let left = length-drop from.off xs in
        let e : from.off + len - from.off ≡ len = omega arith in
        ap (λ (n : ℕ). length (take n (drop from.off xs))) e ∙ length-take-le len (drop from.off xs) (omega (arith, full, left, fits))

    can-access : (step : Step) (action : Action) (answer : Option Answer) → IsAccess step → IsAdmitted fs x call step → AccessAnsweredSo h step action answer → Made step action answer
    can-access (call_steps.Read dom frame off len) action answer is may so = (fs, refl, read-ends dom frame off len action answer so)
    can-access (call_steps.Write dom frame off len) action answer is may so =
        let name : FrameName = record { owner = dom; number = frame } in let w : Writ = writ_of x call in
        let z = can-write fs name w off x.given (may w (refl, refl)) fr.kept (filled name) in
        (z.0, (w, (refl, refl), z.1, z.2), write-ends z.0 dom frame off len action answer so)
    can-access (call_steps.Copy from to len) action answer is may so =
        let w : Writ = writ_of x call in let ys : List ℕ = bytes_at (frame_at fs from.frame) from.off len in
        let here : IsTrue (admits fs to.frame w to.off (length ys)) = subst (λ (n : ℕ). IsTrue (admits fs to.frame w to.off n)) (sym (long from len may.0)) (may.1 w (refl, refl)) in
        let z = can-write fs to.frame w to.off ys here fr.kept (filled to.frame) in
        (z.0, (w, (refl, refl), z.1, z.2), copy-ends z.0 from to len action answer so)
    can-access step action answer is may so = absurd is

module _ (s : Setting) (h : History) (core : CoreState) (c : Underway) (step : Step) (action : Action) (answer : Option Answer) (st : CoreStands s h core) (access : IsAccess step) where
  -- what the call of a domain needs to make its access like this
  abbrev Comes : DomId → Type 0
  Comes d = (domain_of s.domains d ≢ None) × (open_call h d.0 ≡ Some c) × (path (known_at s h d) d c.request (values c) ≡ Some (actions.Step step))
      × (path (known_at s h d) d c.request (values c ++ Nothing ∷ []) ≡ Some action) × AccessAnsweredSo h step action answer

  accesses-home : (x : State) → state_of core.domains x.id.0 ≡ Some x → StateStands s h x → Comes x.id → Gives s h x.id step answer
  accesses-home x here a (named, call, way, next, so) = let u = opened-by s h x.id x.underway (open_call h x.id.0) c a.call call in let o = u.0 in
      let same : o.step ≡ step = same-step o.step step (same_Some (actions.Step o.step) (actions.Step step) (sym u.2.follows ∙ way)) in
      let admitted : IsAdmitted core.frames x o.call o.step = open-admitted s h core.domains core.frames x o c st.domains st.frames a call u.2 in
      let m = can-access s h core.frames st.frames x o.call o.step action answer (subst IsAccess (sym same) access) admitted (subst (λ (z : Step). AccessAnsweredSo h z action answer) (sym same) so) in
      let next' : path (known_at s h x.id) x.id c.request (values c ++ seen_by s h x.id o.step ∷ []) ≡ Some action =
      ap (λ (v : Observation). path (known_at s h x.id) x.id c.request (values c ++ v ∷ [])) (seen-nothing s h x.id o.step (subst IsAccess (sym same) access)) ∙ next in
      subst (λ (z : Step). Gives s h x.id z answer) same (goes-on-at s h core.domains core.frames x o c action answer st named here a u.1 call u.2 m.0 m.1 next' m.2)

pub open-calls-can-access : OpenCallsCanAccess
open-calls-can-access s h d c step action answer (core, st) named call way access next so = let t = there s h core.domains d st.domains named in
    subst (λ (z : DomId). Comes s h core c step action answer st access z → Gives s h z step answer) t.2 (accesses-home s h core c step action answer st access t.0 (ap (λ (z : DomId). state_of core.domains z.0) t.2 ∙ t.1) t.3) (named, call, way, next, so)
