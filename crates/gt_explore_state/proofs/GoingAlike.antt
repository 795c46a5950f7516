-- A history that is, but for keys, one that a core stands for is so with each right item more.
use Rattle.gt_core.proofs.Words.{◌≡◌, ◌≢◌, ◌≤◌, ◌+◌, ◌-◌, ◌⊎◌, inl, inr, ℕ, refl, Bool, true, false, List, [], ◌∷◌}
use Rattle.gt_core.proofs.Words.{◌++◌, length, Option, Some, None, cond, sym, ap, ◌∙◌, arith, subst, ◌==◌, ◌&&◌}
use Rattle.gt_core.proofs.Words.{none-some, same_Some, reverse, option_map, sum_by_push, is_some, take, drop, get_or}
use Rattle.gt_core.proofs.Words.{ltb, eqb-true, DomId, Handle, HeldPin, HandleMap, HandleSlot, value_of, same_handle}
use Rattle.gt_core.proofs.Words.{Observation, Nothing, Action, Done, CallResult, Granted, Step, Unpin, Denial}
use Rattle.gt_core.proofs.Words.{OpenRequest, Load, Peek, Phase, Storing, StoringSecond, Exchanging, Looking, Changing}
use Rattle.gt_core.proofs.Words.{Walking, Accessing, Asking, Last, Ending, Call, State, state_of, History, Setting}
use Rattle.gt_core.proofs.Words.{Underway, open_call, values, known_at, seen_by, path, sees, knowledge_of, OpenAgrees}
use Rattle.gt_core.proofs.Words.{CallAgrees, StateAgrees, StateStands, IsRight, StepsRight, StepsRightIn, BeginsRight}
use Rattle.gt_core.proofs.Words.{AnsweredBy, AreAlike, IsRun, AsksKnown, IsKnown, IsGiven, keyless_items, keyless_item}
use Rattle.gt_core.proofs.Words.{bare_handle, bare_step, bare_request, Adds, MayDo, Goes, action_at, phase_after}
use Rattle.gt_core.proofs.Words.{next_to_give, last_first, PhaseStands, begun_of, asked, SpellsItsEntry, table_at}
use Rattle.gt_core.proofs.Words.{gives_back, verdict_in, stood, position, domain_of, IsReadable, IsLoadOf, contents_at}
use Rattle.gt_core.proofs.Words.{CallerKnowledge, mapping_of, mappings_at}
use Rattle.gt_model.specs.declared.action.Action.TheVariants as actions
use Rattle.gt_model.specs.declared.action.Step.TheVariants as call_steps
use Rattle.gt_model.specs.declared.request.PinHolder.TheVariants as holders
use Rattle.gt_model.specs.declared.action.CallResult.TheVariants as results
use Rattle.gt_core.proofs.{Phases.makes-same, Phases.by-leg, Phases.by-giving, Steps.See.state-there}
use Rattle.gt_core.proofs.{WithoutKeys.bare, WithoutKeys.bared, WithoutKeys.bare-same, WithoutKeys.bare_asked}
use Rattle.gt_core.proofs.{WithoutKeys.bare_call, WithoutKeys.values-bare, WithoutKeys.contents-bare}
use Rattle.gt_core.proofs.{HandlesGiven.open-known, HandlesGiven.CallKnown, AlikeRuns.bare_action}
use Rattle.gt_core.proofs.{AlikeRuns.does-alike, AlikeRuns.alike-grows, GoingOn.open-calls-can-go-on}
use Rattle.gt_core.proofs.{GoingOn.open-calls-can-access, Ticking.Ticks, Ticking.ticks, Steps.Write.open-readable}
use Rattle.gt_core.proofs.{Steps.Write.frames-begun, GoingOn.calls-can-begin, GoingOn.runs-start, Beginning.began}
use Rattle.gt_core.proofs.{Beginning.begin-answers, AgreementKept.known-same, Playing.legal-grows, Pins.known-bare}
use Rattle.gt_core.proofs.{Rows.found, Rows.not-found, Rows.has_id}
use Rattle.gt_model.proofs.Observers.{stepped}
use Rattle.gt_core.specs.Alike.{HappensKnown, KeylessItem, bare_bytes, keyless_answer}
use Rattle.gt_core.specs.declared.core_state.Begun.TheVariants as beginnings
use Rattle.gt_model.specs.declared.trace.ItemEvent.{ItemEvent}
use Rattle.gt_calls.proofs.Advancing.{continues}
use Rattle.gt_calls.specs.Machine.{standing_after}
use Rattle.gt_core.specs.Acting.{answer_of}
use Rattle.gt_core.specs.GoingOn.{AccessAnsweredSo, AnsweredSo, CanBeReached, IsAccess, AccessesNoBytes, AnswersAccess}
use Rattle.gt_core.specs.GoingOn.{step_after}
use Rattle.gt_model.specs.Legal.{next_in}
use Rattle.gt_model.specs.Asking.{FitsAsked}
use Rattle.gt_model.specs.declared.request.Request.{Request}
use Rattle.gt_model.specs.declared.request.Request.TheVariants as requests
use Rattle.gt_model.specs.declared.header.Header.{Header}
use Rattle.gt_core.specs.declared.underway.OpenCall.{OpenCall}
use Rattle.gt_model.specs.declared.trace.Answer.{Answer}
use Rattle.gt_model.specs.declared.trace.Answer.TheVariants as answers
use Rattle.gt_model.specs.declared.trace.Bytes.{Bytes}
use Rattle.gt_model.specs.declared.trace.Element.TheVariants as elements
use Rattle.gt_model.specs.declared.trace.Event.TheVariants.{Begin, Tick}
use Rattle.gt_model.specs.declared.trace.ItemEvent.TheVariants.{Began, Stepped}
use Rattle.gt_model.specs.declared.trace.Item.{Item}
use Rattle.std.proofs.lemmas.List.{get_or_append_left, get_or_push, get_or_past, length_push}
use Rattle.std.proofs.lemmas.Bool.Decides.{nat_tests}
use Rattle.gt_explore_state.specs.Likeness.{AsksFit, LikeReachedGoesOn, LikeReachedStarts}
use Rattle.gt_explore_state.specs.Shows.{IsInRun}
use Rattle.gt_explore_state.proofs.Showing.{item-is}
use Rattle.gt_explore_state.proofs.AlikeFitting.{same-bare, path-at, finds-same, FindsSame}
use Rattle.gt_core.proofs.Ticking.{done-from}

-- one more mapping

abbrev added : HandleMap HeldPin → HeldPin → HandleMap HeldPin
added old m = record { slots = old.slots ++ Some (record { serial = old.given; value = m }) ∷ []; given = old.given + 1; room = old.room }

-- the value of a slot under this serial
abbrev under : ℕ → Option (HandleSlot HeldPin) → Option HeldPin
under serial slot = value_of (record { slots = slot ∷ []; given = 0; room = 0 }) (record { serial = serial; key = 0 })

abbrev added_handle : HandleMap HeldPin → Handle
added_handle old = record { serial = old.given; key = length old.slots }

under-new : (old : HandleMap HeldPin) (m : HeldPin) (other : Handle) → value_of (added old m) other ≡ cond (same_handle other (added_handle old)) (Some m) (value_of old other)
under-new old m other = by (ltb other.key (length old.slots)) refl (other.key == length old.slots) refl where
  s : Option (HandleSlot HeldPin)
  s = Some (record { serial = old.given; value = m })

  at : ℕ → Option (HandleSlot HeldPin)
  at k = get_or (old.slots ++ Some (record { serial = old.given; value = m }) ∷ []) k None

  Goal : Option (HandleSlot HeldPin) → Option (HandleSlot HeldPin) → Type 0
  Goal new was = under other.serial new ≡ cond ((other.serial == old.given) && (other.key == length old.slots)) (Some m) (under other.serial was)

  by : (a : Bool) → ltb other.key (length old.slots) ≡ a → (b : Bool) → (other.key == length old.slots) ≡ b → Goal (get_or (old.slots ++ Some (record { serial = old.given; value = m }) ∷ []) other.key None) (get_or old.slots other.key None)
  by true e b f = subst (λ (x : Option (HandleSlot HeldPin)). Goal x (get_or old.slots other.key None)) (sym (get_or_append_left old.slots (Some (record { serial = old.given; value = m }) ∷ []) None other.key (grind (arith, nat_tests)))) (apart (grind (arith, nat_tests))) where
    apart : (other.key == length old.slots) ≡ false → Goal (get_or old.slots other.key None) (get_or old.slots other.key None)
    apart n = grind arith
  by false e true f = let here : length old.slots ≡ other.key = sym (eqb-true other.key (length old.slots) f) in
      subst (λ (x : Option (HandleSlot HeldPin)). Goal x (get_or old.slots other.key None)) (sym (get_or_push old.slots (Some (record { serial = old.given; value = m })) None other.key here))
      (subst (λ (x : Option (HandleSlot HeldPin)). Goal (Some (record { serial = old.given; value = m })) x) (sym (get_or_past old.slots other.key None (omega arith))) (new f))
    where
      new : (other.key == length old.slots) ≡ true → Goal (Some (record { serial = old.given; value = m })) None
      new g = grind (arith, nat_tests)
  by false e false f = let more = length_push old.slots (Some (record { serial = old.given; value = m })) in let past : length old.slots + 1 ≤ other.key = grind (arith, nat_tests) in
      subst (λ (x : Option (HandleSlot HeldPin)). Goal x (get_or old.slots other.key None)) (sym (get_or_past (old.slots ++ Some (record { serial = old.given; value = m }) ∷ []) other.key None (omega arith)))
      (subst (λ (x : Option (HandleSlot HeldPin)). Goal None x) (sym (get_or_past old.slots other.key None (omega arith))) (none f))
    where
      none : (other.key == length old.slots) ≡ false → Goal None None
      none g = grind arith

can-add : (old : HandleMap HeldPin) (m : HeldPin) → Adds old (added old m) (added_handle old) m
can-add old m = record {
  serial = refl;
  fresh = ap (under old.given) (get_or_past old.slots (length old.slots) None (omega arith));
  given = refl;
  updates = under-new old m;
  count = sum_by_push (λ (x : Option (HandleSlot HeldPin)). cond (is_some x) 1 0) old.slots (Some (record { serial = old.given; value = m }));
}

-- a step on words

words-or-access : (z : Step) → AccessesNoBytes z ⊎ IsAccess z
words-or-access (call_steps.Read dom frame off len) = inr tt
words-or-access (call_steps.Write dom frame off len) = inr tt
words-or-access (call_steps.Copy from to len) = inr tt
words-or-access z = inl tt

answered-so : (s : Setting) (g : History) (x : State) → StateStands s g x → (z : Action) → (answer : Option Answer) × AnsweredSo g x.id z answer
answered-so s g x a (actions.Step next) = (None, refl)
answered-so s g x a (Done (results.Mapped held)) = (Some (answers.Mapped (added_handle x.mappings)), (added_handle x.mappings, refl, record { old = x.mappings; new = added x.mappings held; agrees = a.mappings; adds = can-add x.mappings held }))
answered-so s g x a (Done v) = (Some (answer_of v), refl)

-- an access

saw-nothing : (s : Setting) (h : History) (d : DomId) (z : Step) → IsAccess z → seen_by s h d z ≡ Nothing
saw-nothing s h d (call_steps.Read dom frame off len) a = refl
saw-nothing s h d (call_steps.Write dom frame off len) a = refl
saw-nothing s h d (call_steps.Copy from to len) a = refl
saw-nothing s h d z a = absurd a

giving-granted : (ps : List HeldPin) (v : CallResult) → next_to_give ps Granted ≡ Done v → v ≡ Granted
giving-granted [] v e = cc
giving-granted (p ∷ ps) v e = cc

last-granted : (r : OpenRequest) (last : Step) (verdict : CallResult) → IsAccess last → Rattle.gt_core.specs.Phases.EndsAfter r last verdict → verdict ≡ Granted
last-granted r (call_steps.Read dom frame off len) verdict a e = e
last-granted r (call_steps.Write dom frame off len) verdict a e = e
last-granted r (call_steps.Copy from to len) verdict a e = e
last-granted r last verdict a e = absurd a

-- a call that is over with its access ends with Ok
access-granted : (s : Setting) (h : History) (d : DomId) (r : OpenRequest) (so_far : List (Step × Observation)) (phase : Phase) (z : Step) (v : CallResult) → IsAccess z → action_at d phase ≡ actions.Step z
    → PhaseStands s h d r so_far phase → action_at d (phase_after (known_at s h d) d phase Nothing) ≡ Done v → v ≡ Granted
access-granted s h d r so_far (Accessing c source dest) z v a p place e = giving-granted (last_first (record { source = source; dest = dest })) v e
access-granted s h d r so_far (Last last verdict) z v a p place e = let same : last ≡ z = makes-same last z p in
    let g : verdict ≡ Granted = last-granted r last verdict (subst IsAccess (sym same) a) place in let f : Done verdict ≡ Done v = e in cc
access-granted s h d r so_far (Walking pin_purpose l at) z v a p place e =
    absurd (by-leg (λ (y : Step). y ≡ z → ⊥) (λ dom f. subst IsAccess (sym f) a) (λ dom gref f. subst IsAccess (sym f) a) (λ dom gref body_word f. subst IsAccess (sym f) a) (λ q f. subst IsAccess (sym f) a) l at (makes-same _ z p))
access-granted s h d r so_far (Ending pins verdict) z v a p place e = absurd (by-giving (λ (y : Step). y ≡ z → ⊥) (λ q n f. subst IsAccess (sym f) a) (last_first pins) verdict z p refl)
access-granted s h d r so_far (Storing gref entry) z v a p place e = absurd (subst IsAccess (sym (makes-same _ z p)) a)
access-granted s h d r so_far (StoringSecond gref entry) z v a p place e = absurd (subst IsAccess (sym (makes-same _ z p)) a)
access-granted s h d r so_far (Exchanging gref looked change) z v a p place e = absurd (subst IsAccess (sym (makes-same _ z p)) a)
access-granted s h d r so_far (Looking gref change more) z v a p place e = absurd (subst IsAccess (sym (makes-same _ z p)) a)
access-granted s h d r so_far (Changing gref change more looked) z v a p place e = absurd (subst IsAccess (sym (makes-same _ z p)) a)
access-granted s h d r so_far (Asking dom question) z v a p place e = absurd (subst IsAccess (sym (makes-same _ z p)) a)

-- what a read is told

unbare-read : (y : Step) (dom : DomId) (frame off len : ℕ) → bare_step y ≡ call_steps.Read dom frame off len → y ≡ call_steps.Read dom frame off len
unbare-read (Unpin p (holders.Mapping handle)) dom frame off len e = absurd (let f : Unpin p (holders.Mapping (bare_handle handle)) ≡ call_steps.Read dom frame off len = e in cc)
unbare-read y dom frame off len e = e

only-granted : (p : Option Action) → option_map bare_action p ≡ Some (Done Granted) → p ≡ Some (Done Granted)
only-granted None e = absurd (none-some _ e)
only-granted (Some (actions.Step z)) e = absurd (let f = same_Some _ _ e in let k : actions.Step (bare_step z) ≡ Done Granted = f in cc)
only-granted (Some (Done v)) e = e

bare-load : (r : OpenRequest) (n : ℕ) → IsLoadOf (bare_asked r) n → IsLoadOf r n
bare-load (Load handle off len) n a = a
bare-load (Peek frame off len) n a = a
bare-load r n a = grind arith

load-bare : (r : OpenRequest) (n : ℕ) → IsLoadOf r n → IsLoadOf (bare_asked r) n
load-bare (Load handle off len) n a = a
load-bare (Peek frame off len) n a = a
load-bare r n a = grind arith

-- a read that ends its call with Ok is told the bytes that its range held
told : (s : Setting) (h : History) (d : DomId) (r : OpenRequest) (dom : DomId) (frame off len : ℕ) (giving : Bool) (answer : Option Answer) (against : Option Denial) → IsLoadOf r len → AnsweredBy s h d r (Some (call_steps.Read dom frame off len)) giving (Some Granted) answer against
    → (b : Bytes) × (b.bytes.items ≡ take len (drop off (contents_at h dom.0 frame)))
told s h d r dom frame off len giving None against is a = absurd a
told s h d (Load handle o n) dom frame off len giving (Some (answers.Bytes b)) against is a = (b, a.2)
told s h d (Peek f o n) dom frame off len giving (Some (answers.Bytes b)) against is a = (b, a.2)
told s h d r dom frame off len giving (Some answer) against is a = absurd (grind arith)

-- a tick

-- where the call is after its step, and the call there
abbrev moved : Setting → List State → State → OpenCall → Phase
moved s xs x o = standing_after (knowledge_of s.domains s.first_generation s.may x.own x.header x.mappings) o.call.caller o.call.request o.call.phase (sees xs x.id o.step)

abbrev call_then : Setting → List State → State → OpenCall → Call
call_then s xs x o = record { caller = o.call.caller; request = o.call.request; phase = Some (moved s xs x o) }

abbrev action_then : Setting → List State → State → OpenCall → Action
action_then s xs x o = action_at o.call.caller (moved s xs x o)

goes-then : (s : Setting) (xs : List State) (x : State) (o : OpenCall)
    → Goes (knowledge_of s.domains s.first_generation s.may x.own x.header x.mappings) o.call (sees xs x.id o.step) (call_then s xs x o) (action_then s xs x o)
goes-then s xs x o = continues (knowledge_of s.domains s.first_generation s.may x.own x.header x.mappings) o.call.caller o.call.request o.call.phase (sees xs x.id o.step) (Some (moved s xs x o)) (action_then s xs x o) refl refl

-- the history is, but for keys, one that a core stands for, with one item more
abbrev GoesOnLike : Setting → History → History → Item → Type 0
GoesOnLike s h g i = (j : Item) × AreAlike s (i ∷ h) (j ∷ g) × CanBeReached s (j ∷ g)

module _ (s : Setting) (h g : History) (alike : AreAlike s h g) (reached : CanBeReached s g) (x : State) (here : state_of reached.0.domains x.id.0 ≡ Some x) (a : StateStands s g x) (named : domain_of s.domains x.id ≢ None)
    (c w : Underway) (o : OpenCall) (call_h : open_call h x.id.0 ≡ Some c) (call_g : open_call g x.id.0 ≡ Some w) (b : OpenAgrees s g x.id o w) (z : Step) (seen : Observation) (answer : Option Answer) (right : StepsRight s h (stepped x.id z seen answer) z seen c) where
  i : Item
  i = stepped x.id z seen answer

  ticked : (sees reached.0.domains x.id o.step ≡ seen_by s g x.id o.step) × Ticks s g reached.0.domains x o w (call_then s reached.0.domains x o) (action_then s reached.0.domains x o)
  ticked = ticks s g reached.0.domains x o w (sees reached.0.domains x.id o.step) (call_then s reached.0.domains x o) (action_then s reached.0.domains x o) reached.1.legal reached.1.domains here a call_g b refl refl refl (goes-then s reached.0.domains x o)

  action : Action
  action = action_then s reached.0.domains x o

  next : path (known_at s g x.id) x.id w.request (values w ++ seen_by s g x.id o.step ∷ []) ≡ Some (action_then s reached.0.domains x o)
  next = ticked.1.on.follows

  same : bare_step z ≡ bare_step o.step
  same = same-bare s h g x.id c w z o.step alike call_h call_g right.continues b.follows

  -- what both do is the same but for keys
  joined : (ans : Option Answer) → IsRight s g (step_after s g x.id o.step ans) × CanBeReached s (step_after s g x.id o.step ans ∷ g) → GoesOnLike s h g (stepped x.id z seen answer)
  joined ans r = let j = step_after s g x.id o.step ans in let e = Tick x.id in
      let m : MayDo s h e (elements.Item (stepped x.id z seen answer)) = (named, (refl, tt), subst (λ (u : Option Underway). StepsRightIn s h (stepped x.id z seen answer) z seen u) (sym call_h) right) in
      let n : MayDo s g e (elements.Item j) = (named, (refl, tt), r.0) in
      (j, alike-grows s h g e e (elements.Item (stepped x.id z seen answer)) (elements.Item j) alike tt tt m n (does-alike s h g e e (elements.Item (stepped x.id z seen answer)) (elements.Item j) alike refl tt tt m n), r.1)

  on-words : AccessesNoBytes o.step → GoesOnLike s h g (stepped x.id z seen answer)
  on-words quiet = let so = answered-so s g x a (action_then s reached.0.domains x o) in
      joined so.0 (open-calls-can-go-on s g x.id w o.step (action_then s reached.0.domains x o) so.0 reached named call_g b.follows quiet next so.1)

  calls : bare_call c ≡ bare_call w
  calls = same_Some (bare_call c) (bare_call w) (sym ((bared h).open_calls x.id.0 ∙ ap (option_map bare_call) call_h) ∙ ap (λ (l : History). open_call l x.id.0) (bare-same h g alike.same) ∙ (bared g).open_calls x.id.0 ∙ ap (option_map bare_call) call_g)

  -- the path of the one goes on as that of the other
  path-like : (v : Observation) → option_map bare_action (path (known_at s h x.id) x.id c.request (values c ++ v ∷ [])) ≡ option_map bare_action (path (known_at s g x.id) x.id w.request (values w ++ v ∷ []))
  path-like v = sym (path-at s h x.id c.request (values c ++ v ∷ []) alike.first (subst (CallKnown h x.id.0) call_h (open-known s h x.id.0 alike.first)))
      ∙ ap (λ (vs : List Observation). option_map bare_action (path (known_at s (bare h) x.id) x.id (bare_asked c.request) (vs ++ v ∷ []))) (sym (values-bare c))
      ∙ ap (λ (l : History). option_map bare_action (path (known_at s l x.id) x.id (bare_call c).request (values (bare_call c) ++ v ∷ []))) (bare-same h g alike.same)
      ∙ ap (λ (u : Underway). option_map bare_action (path (known_at s (bare g) x.id) x.id u.request (values u ++ v ∷ []))) calls
      ∙ ap (λ (vs : List Observation). option_map bare_action (path (known_at s (bare g) x.id) x.id (bare_asked w.request) (vs ++ v ∷ []))) (values-bare w)
      ∙ path-at s g x.id w.request (values w ++ v ∷ []) alike.second (subst (CallKnown g x.id.0) call_g (open-known s g x.id.0 alike.second))

  same-contents : (t f : ℕ) → contents_at h t f ≡ contents_at g t f
  same-contents t f = sym (contents-bare h t f) ∙ ap (λ (l : History). contents_at l t f) (bare-same h g alike.same) ∙ contents-bare g t f

  -- a read that ends its call is told what the range held
  read-told : (dom : DomId) (frame off len : ℕ) → o.step ≡ call_steps.Read dom frame off len → path (known_at s g x.id) x.id w.request (values w ++ Nothing ∷ []) ≡ Some (Done Granted)
      → (y : Answer) × AnswersAccess g (call_steps.Read dom frame off len) y
  read-told dom frame off len is ends = let read : z ≡ call_steps.Read dom frame off len = unbare-read z dom frame off len (same ∙ ap bare_step is) in
      let nothing : seen ≡ Nothing = right.sees ∙ ap (λ (y : Step). seen_by s h x.id y) read in
      let over : next_in s h x.id c seen ≡ Some (Done Granted) = ap (λ (v : Observation). path (known_at s h x.id) x.id c.request (values c ++ v ∷ [])) nothing ∙ only-granted _ (path-like Nothing ∙ ap (option_map bare_action) ends) in
      let readable : IsReadable reached.0.frames o.call (call_steps.Read dom frame off len) = subst (IsReadable reached.0.frames o.call) is (open-readable s g reached.0.domains reached.0.frames x o w reached.1.domains reached.1.frames b) in
      let load : IsLoadOf c.request len = bare-load c.request len (subst (λ (u : Underway). IsLoadOf u.request len) (sym calls) (load-bare w.request len (subst (λ (q : OpenRequest). IsLoadOf q len) b.asks readable.1))) in
      let answered = subst (λ (y : Step). AnsweredBy s h x.id c.request (Some y) (gives_back (next_in s h x.id c seen)) (verdict_in (next_in s h x.id c seen)) answer (stood s (stepped x.id z seen answer ∷ h) x.id.0)) read right.answered in
      let t = told s h x.id c.request dom frame off len false answer (stood s (stepped x.id z seen answer ∷ h) x.id.0) load (subst (λ (p : Option Action). AnsweredBy s h x.id c.request (Some (call_steps.Read dom frame off len)) (gives_back p) (verdict_in p) answer (stood s (stepped x.id z seen answer ∷ h) x.id.0)) over answered) in
      let size : off + len - off ≡ len = omega arith in
      (answers.Bytes t.0, (t.0, refl, t.1 ∙ ap (λ (l : List ℕ). take len (drop off l)) (same-contents dom.0 frame) ∙ ap (λ (n : ℕ). take n (drop off (contents_at g dom.0 frame))) (sym size)))

  access-told : (y : Step) → o.step ≡ y → IsAccess y → path (known_at s g x.id) x.id w.request (values w ++ Nothing ∷ []) ≡ Some (Done Granted) → (ans : Answer) × AnswersAccess g y ans
  access-told (call_steps.Read dom frame off len) is access ends = read-told dom frame off len is ends
  access-told (call_steps.Write dom frame off len) is access ends = (answers.Done, refl)
  access-told (call_steps.Copy from to len) is access ends = (answers.Done, refl)
  access-told y is access ends = absurd access

  access-so : (p : Action) → IsAccess o.step → path (known_at s g x.id) x.id w.request (values w ++ Nothing ∷ []) ≡ Some p → ((v : CallResult) → p ≡ Done v → v ≡ Granted) → (ans : Option Answer) × AccessAnsweredSo g o.step p ans
  access-so (actions.Step next) access ends only = (None, refl)
  access-so (Done Granted) access ends only = let t = access-told o.step refl access ends in (Some t.0, (t.0, refl, t.1))
  access-so (Done v) access ends only = absurd (let e = only v refl in cc)

  on-access : IsAccess o.step → GoesOnLike s h g (stepped x.id z seen answer)
  on-access access = let nothing = saw-nothing s g x.id o.step access in
      let ends : path (known_at s g x.id) x.id w.request (values w ++ Nothing ∷ []) ≡ Some (action_then s reached.0.domains x o) = ap (λ (v : Observation). path (known_at s g x.id) x.id w.request (values w ++ v ∷ [])) (sym nothing) ∙ next in
      let only : (v : CallResult) → action_then s reached.0.domains x o ≡ Done v → v ≡ Granted = λ v e. access-granted s g x.id w.request (reverse w.steps) ticked.1.stands.phase o.step v access ticked.1.stands.acts ticked.1.stands.place
      (ap (λ (u : Observation). action_at x.id (phase_after (known_at s g x.id) x.id ticked.1.stands.phase u)) (sym nothing) ∙ done-from ticked.1 v e) in
      let so = access-so (action_then s reached.0.domains x o) access ends only in
      joined so.0 (open-calls-can-access s g x.id w o.step (action_then s reached.0.domains x o) so.0 reached named call_g b.follows access ends so.1)

  goes-on : GoesOnLike s h g (stepped x.id z seen answer)
  goes-on = by (words-or-access o.step) where
    by : AccessesNoBytes o.step ⊎ IsAccess o.step → GoesOnLike s h g (stepped x.id z seen answer)
    by (inl quiet) = on-words quiet
    by (inr access) = on-access access

tick-home : (s : Setting) (h g : History) (x : State) (i : Item) (z : Step) (seen : Observation) (alike : AreAlike s h g) (reached : CanBeReached s g) → state_of reached.0.domains x.id.0 ≡ Some x → StateStands s g x → domain_of s.domains x.id ≢ None
    → (u w : Option Underway) → open_call h x.id.0 ≡ u → open_call g x.id.0 ≡ w → (o : Option OpenCall) → CallAgrees s g x.id o w → StepsRightIn s h (stepped x.id z seen i.answer) z seen u → GoesOnLike s h g (stepped x.id z seen i.answer)
tick-home s h g x i z seen alike reached here a named None w hu gw o b right = absurd right
tick-home s h g x i z seen alike reached here a named (Some c) None hu gw o b right =
    absurd (none-some (bare_call c) (sym (sym ((bared h).open_calls x.id.0 ∙ ap (option_map bare_call) hu) ∙ ap (λ (l : History). open_call l x.id.0) (bare-same h g alike.same) ∙ (bared g).open_calls x.id.0 ∙ ap (option_map bare_call) gw)))
tick-home s h g x i z seen alike reached here a named (Some c) (Some w) hu gw None b right = absurd b
tick-home s h g x i z seen alike reached here a named (Some c) (Some w) hu gw (Some o) b right = goes-on s h g alike reached x here a named c w o hu gw b z seen i.answer right

pub tick-like : (s : Setting) (h g : History) (i : Item) (z : Step) (seen : Observation) → AreAlike s h g → CanBeReached s g → IsInRun s i.actor → IsRight s h i → i.happened ≡ Stepped z seen → GoesOnLike s h g i
tick-like s h g i z seen alike reached run right is =
    let st = reached.1.domains in let xs = reached.0.domains in
    let some : state_of xs i.actor.0 ≢ None = λ e. run (subst (StateAgrees s g i.actor) e (st.each i.actor)) in
    let t = state-there s g xs i.actor st some in let x = t.0 in
    let here : state_of xs x.id.0 ≡ Some x = ap (λ (d : DomId). state_of xs d.0) t.2 ∙ t.1 in
    let same = item-is i x.id z seen (sym t.2) is in
    let made : IsRight s h (stepped x.id z seen i.answer) = subst (IsRight s h) same right in
    subst (GoesOnLike s h g) (sym same)
    (tick-home s h g x i z seen alike reached here t.3 (subst (λ (d : DomId). domain_of s.domains d ≢ None) (sym t.2) run) (open_call h x.id.0) (open_call g x.id.0) refl refl x.underway t.3.call made)

-- a beginning

first-told : (t u : KeylessItem) (ts us : List KeylessItem) → t ∷ ts ≡ u ∷ us → t ≡ u
first-told t u ts us e = cc

rest-told : (t u : KeylessItem) (ts us : List KeylessItem) → t ∷ ts ≡ u ∷ us → ts ≡ us
rest-told t u ts us e = cc

mapped-told : (o : Option Answer) (handle : Handle) → option_map keyless_answer o ≡ Some (inl (answers.Mapped (bare_handle handle))) → (other : Handle) × (o ≡ Some (answers.Mapped other)) × (bare_handle other ≡ bare_handle handle)
mapped-told None handle e = absurd (none-some _ e)
mapped-told (Some (answers.Mapped other)) handle e = (other, refl, cc)
mapped-told (Some (answers.Bytes b)) handle e = absurd (let f : inr b.bytes.items ≡ inl (answers.Mapped (bare_handle handle)) = same_Some _ _ e in cc)
mapped-told (Some answer) handle e = absurd (let f = same_Some _ _ e in cc)

-- a handle that was answered in the one run was answered in the other, but for its key
given-like : (h g : History) (d : ℕ) (handle : Handle) → keyless_items h ≡ keyless_items g → IsGiven h d handle → (other : Handle) × (bare_handle other ≡ bare_handle handle) × IsGiven g d other
unfolding keyless_items IsGiven
given-like [] g d handle e given = absurd given
given-like (i ∷ h) [] d handle e given = absurd (let f : keyless_item i ∷ keyless_items h ≡ [] = e in cc)
given-like (i ∷ h) (j ∷ g) d handle e (inl given) = let same : keyless_item i ≡ keyless_item j = first-told (keyless_item i) (keyless_item j) (keyless_items h) (keyless_items g) e in
    let actor : i.actor ≡ j.actor = ap (λ (t : KeylessItem). t.actor) same in
    let answer : option_map keyless_answer (Some (answers.Mapped handle)) ≡ option_map keyless_answer j.answer = ap (option_map keyless_answer) (sym given.1) ∙ ap (λ (t : KeylessItem). t.answer) same in
    let m = mapped-told j.answer handle (sym answer) in
    (m.0, m.2, inl (ap (λ (n : DomId). n.0) (sym actor) ∙ given.0, m.1))
given-like (i ∷ h) (j ∷ g) d handle e (inr given) = let r = given-like h g d handle (rest-told (keyless_item i) (keyless_item j) (keyless_items h) (keyless_items g) e) given in (r.0, r.1, inr r.2)

known-like : (s : Setting) (h g : History) (d : ℕ) (handle : Handle) → AreAlike s h g → IsKnown h d handle → (other : Handle) × (bare_handle other ≡ bare_handle handle) × IsKnown g d other
known-like s h g d handle alike (inl given) = let r = given-like h g d handle alike.same given in (r.0, r.1, inl r.2)
known-like s h g d handle alike (inr end) = (handle, refl, inr end)

-- the same request by the other run's handle
record Renamed (g : History) (d : DomId) (request : Request) : Type 0 where
  pub request' : Request
  pub same : bare_request request' ≡ bare_request request
  pub known : AsksKnown g d.0 (asked request')
  pub fits : FitsAsked (asked request) → FitsAsked (asked request')
  pub said : (header : Header) → SpellsItsEntry header request → SpellsItsEntry header request'

renamed : (s : Setting) (h g : History) (d : DomId) (request : Request) → AreAlike s h g → AsksKnown h d.0 (asked request) → Renamed g d request
renamed s h g d (requests.Unmap handle) alike known = let r = known-like s h g d.0 handle alike known in
    record { request' = requests.Unmap r.0; same = ap (λ (a : Handle). requests.Unmap a) r.1; known = r.2; fits = λ f. tt; said = λ x f. f }
renamed s h g d (requests.Release handle) alike known = let r = known-like s h g d.0 handle alike known in
    record { request' = requests.Release r.0; same = ap (λ (a : Handle). requests.Release a) r.1; known = r.2; fits = λ f. tt; said = λ x f. f }
renamed s h g d (requests.Load handle off len) alike known = let r = known-like s h g d.0 handle alike known in
    record { request' = requests.Load r.0 off len; same = ap (λ (a : Handle). requests.Load a off len) r.1; known = r.2; fits = λ f. tt; said = λ x f. f }
renamed s h g d (requests.Store handle off bytes) alike known = let r = known-like s h g d.0 handle alike known in
    record { request' = requests.Store r.0 off bytes; same = ap (λ (a : Handle). requests.Store a off (bare_bytes bytes)) r.1; known = r.2; fits = λ f. tt; said = λ x f. f }
renamed s h g d request alike known = record { request' = request; same = refl; known = tt; fits = λ f. f; said = λ x f. f }

begun-bare : (k : CallerKnowledge) (found : Handle → Option HeldPin) (d : DomId) (q : Request) → FindsSame found k.mapping (asked q) → begun_of (record k { mapping = found }) d (bare_request q) ≡ begun_of k d q
begun-bare k found d q same = grind arith

begun-at : (s : Setting) (h : History) (d : DomId) (q : Request) → IsRun s h → AsksKnown h d.0 (asked q) → begun_of (known_at s (bare h) d) d (bare_request q) ≡ begun_of (known_at s h d) d q
begun-at s h d q run k = ap (λ (z : CallerKnowledge). begun_of z d (bare_request q)) (known-bare s h d run)
    ∙ begun-bare (known_at s h d) (mapping_of (mappings_at (bare h) d.0)) d q (finds-same s h d (asked q) run k)

began-is : (i : Item) (d : DomId) (request : Request) → i.actor ≡ d → i.happened ≡ Began request → i ≡ began d request i.answer
began-is i d request a b = ap (λ (x : DomId). record { actor = x; happened = i.happened; answer = i.answer }) a ∙ ap (λ (x : ItemEvent). record { actor = d; happened = x; answer = i.answer }) b

place-of : (xs : List State) (d : ℕ) (x : State) → state_of xs d ≡ Some x → (at : ℕ) × (position (has_id d) xs ≡ Some at) × (x ≡ get_or xs at x)
place-of xs d x is = by (position (has_id d) xs) refl where
  by : (o : Option ℕ) → position (has_id d) xs ≡ o → (at : ℕ) × (position (has_id d) xs ≡ Some at) × (x ≡ get_or xs at x)
  by None e = absurd (none-some x (sym (not-found xs d e) ∙ is))
  by (Some at) e = (at, e, same_Some x (get_or xs at x) (sym is ∙ found xs d at x e))

at-rest : (s : Setting) (g : History) (d : DomId) (o : Option OpenCall) (w : Option Underway) → CallAgrees s g d o w → w ≡ None → is_some o ≡ false
at-rest s g d None w a e = refl
at-rest s g d (Some o) None a e = absurd a
at-rest s g d (Some o) (Some w) a e = absurd (none-some w (sym e))

no-call : (o : Option Underway) → None ≡ option_map bare_call o → o ≡ None
no-call None e = refl
no-call (Some c) e = absurd (none-some (bare_call c) e)

module _ (s : Setting) (h g : History) (alike : AreAlike s h g) (reached : CanBeReached s g) (d : DomId) (run : IsInRun s d) (request : Request) (answer : Option Answer) (right : BeginsRight s h (began d request answer) request)
    (known : AsksKnown h d.0 (asked request)) (fits : FitsAsked (asked request)) where
  r : Renamed g d request
  r = renamed s h g d request alike known

  closed : open_call g d.0 ≡ None
  closed = no-call (open_call g d.0) (ap (option_map bare_call) (sym right.0) ∙ sym ((bared h).open_calls d.0) ∙ ap (λ (l : History). open_call l d.0) (bare-same h g alike.same) ∙ (bared g).open_calls d.0)

  same-table : table_at s h d ≡ table_at s g d
  same-table = sym ((bared h).table s d) ∙ ap (λ (l : History). table_at s l d) (bare-same h g alike.same) ∙ (bared g).table s d

  begun-same : begun_of (known_at s g d) d (renamed s h g d request alike known).request' ≡ begun_of (known_at s h d) d request
  begun-same = sym (begun-at s g d (renamed s h g d request alike known).request' alike.second (renamed s h g d request alike known).known)
      ∙ ap (λ (q : Request). begun_of (known_at s (bare g) d) d q) (renamed s h g d request alike known).same
      ∙ ap (λ (l : History). begun_of (known_at s l d) d (bare_request request)) (sym (bare-same h g alike.same))
      ∙ begun-at s h d request alike.first known

  begin-joined : (ans : Option Answer) → IsRight s g (began d (renamed s h g d request alike known).request' ans) × CanBeReached s (began d (renamed s h g d request alike known).request' ans ∷ g) → GoesOnLike s h g (began d request answer)
  begin-joined ans both = let q = (renamed s h g d request alike known).request' in let i = began d request answer in let j = began d q ans in
      let m : MayDo s h (Begin d request) (elements.Item i) = (run, (refl, refl), right) in let n : MayDo s g (Begin d q) (elements.Item j) = (run, (refl, refl), both.0) in
      let other = (renamed s h g d request alike known).known in
      (j, alike-grows s h g (Begin d request) (Begin d q) (elements.Item i) (elements.Item j) alike known other m n (does-alike s h g (Begin d request) (Begin d q) (elements.Item i) (elements.Item j) alike (ap (λ (x : Request). Begin d x) (sym (renamed s h g d request alike known).same)) known other m n), both.1)

  -- no rule answers it
  begin-opens : begun_of (known_at s g d) d (renamed s h g d request alike known).request' ≡ None → (a : Option Answer) → answer ≡ a → GoesOnLike s h g (began d request answer)
  begin-opens none None e = begin-joined _ (calls-can-begin s g d (renamed s h g d request alike known).request' reached run closed ((renamed s h g d request alike known).fits fits)
      ((renamed s h g d request alike known).said (table_at s g d) (subst (λ (x : Header). SpellsItsEntry x request) same-table (right.2 e))))
  begin-opens none (Some y) e = absurd (subst (λ (v : Option CallResult). AnsweredBy s h d (asked request) None false v (Some y) (stood s (began d request answer ∷ h) d.0)) (sym begun-same ∙ none)
      (subst (λ (a : Option Answer). AnsweredBy s h d (asked request) None false (begun_of (known_at s h d) d request) a (stood s (began d request answer ∷ h) d.0)) e right.1))

  -- a rule answers it
  begin-ends : (v : CallResult) → begun_of (known_at s g d) d (renamed s h g d request alike known).request' ≡ Some v → GoesOnLike s h g (began d request answer)
  begin-ends v is = let q = (renamed s h g d request alike known).request' in let core = reached.0 in let st = reached.1 in
      let some : state_of core.domains d.0 ≢ None = λ e. run (subst (StateAgrees s g d) e (st.domains.each d)) in
      let t = state-there s g core.domains d st.domains some in let x = t.0 in let p = place-of core.domains d.0 x t.1 in
      let idle : is_some x.underway ≡ false = at-rest s g x.id x.underway (open_call g x.id.0) t.3.call (ap (λ (z : DomId). open_call g z.0) t.2 ∙ closed) in
      let was : begun_of (knowledge_of s.domains s.first_generation s.may x.own x.header x.mappings) d q ≡ Some v = ap (λ (k : CallerKnowledge). begun_of k d q) (known-same s g x t.3 ∙ ap (known_at s g) t.2) ∙ is in
      let b = begin-answers s g core.domains d p.0 x q v (answer_of v) refl p.1 p.2 idle was st.domains in
      begin-joined (Some (answer_of v)) (
        b.1,
        (
          core,
          record {
            legal = legal-grows s g (Begin d q) (elements.Item (began d q (Some (answer_of v)))) (run, (refl, refl), b.1) st.legal;
            domains = b.2;
            frames = frames-begun s g core.frames d q (beginnings.Done (answer_of v)) st.frames;
          },
        ),
      )

  begin-home : GoesOnLike s h g (began d request answer)
  begin-home = by (begun_of (known_at s g d) d (renamed s h g d request alike known).request') refl where
    by : (v : Option CallResult) → begun_of (known_at s g d) d (renamed s h g d request alike known).request' ≡ v → GoesOnLike s h g (began d request answer)
    by None e = begin-opens e answer refl
    by (Some v) e = begin-ends v e

begin-like : (s : Setting) (h g : History) (i : Item) (request : Request) → AreAlike s h g → CanBeReached s g → IsInRun s i.actor → IsRight s h i → i.happened ≡ Began request → AsksKnown h i.actor.0 (asked request) → FitsAsked (asked request) → GoesOnLike s h g i
begin-like s h g i request alike reached run right is known fits = let same = began-is i i.actor request refl is in
    subst (GoesOnLike s h g) (sym same) (begin-home s h g alike reached i.actor run request i.answer (subst (IsRight s h) same right) known fits)

-- each item

item-like : (s : Setting) (h g : History) (i : Item) (x : ItemEvent) → i.happened ≡ x → AreAlike s h g → CanBeReached s g → IsInRun s i.actor → IsRight s h i → HappensKnown h i → AsksFit x → GoesOnLike s h g i
item-like s h g i (Stepped z seen) is alike reached run right known fits = tick-like s h g i z seen alike reached run right is
item-like s h g i (Began request) is alike reached run right known fits = begin-like s h g i request alike reached run right is
    (let same = began-is i i.actor request refl is in subst (HappensKnown h) same known) fits

pub like-goes-on : LikeReachedGoesOn
like-goes-on s h i (g, alike, reached) run right known fits = let r = item-like s h g i i.happened refl alike reached run right known fits in (r.0 ∷ g, r.1, r.2)

pub like-starts : LikeReachedStarts
unfolding IsRun keyless_items
like-starts config may limits = ([], record { first = tt; second = tt; same = refl }, runs-start config may limits)
